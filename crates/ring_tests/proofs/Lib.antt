mod Alike
mod AllAlike
