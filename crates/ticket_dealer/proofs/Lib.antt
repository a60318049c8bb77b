mod Lists
mod Asks
mod Dealings
