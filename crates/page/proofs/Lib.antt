pub mod Slices
pub mod Links
pub mod Drafts
pub mod Pieces
pub mod Pages
pub mod Uniforms
pub mod Verdicts
