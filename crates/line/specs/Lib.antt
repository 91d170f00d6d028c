pub mod Locale
pub mod Name
pub mod Line
pub mod Form
pub mod Place
