mod Framing
mod Searches
mod Fits
mod Rests
mod Examples
mod Apart
