pub mod PictureSteps
pub mod Styled
pub mod Follows
pub mod Lists
pub mod Standing
pub mod Told
pub mod PageSteps
