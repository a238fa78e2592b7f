-- What reading a section and the checks of its records tell.
pub mod Told
pub mod Rising
