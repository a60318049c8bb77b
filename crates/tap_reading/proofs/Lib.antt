mod ReadOnes
mod ItemFaults
