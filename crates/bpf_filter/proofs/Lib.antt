mod Checks
mod Leads
mod Listed
mod Runs
