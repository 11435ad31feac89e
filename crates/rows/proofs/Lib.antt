pub mod Judges
pub mod Lifts
pub mod Tests
