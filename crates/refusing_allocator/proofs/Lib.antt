mod Granted
mod Wrapped
