-- The token of each printed word. Only the proof of `printed_texts_write_their_modules` uses it.
pub mod Printed
