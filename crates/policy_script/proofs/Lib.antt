mod Askings
mod Scripts
