pub mod headline
pub mod inner
pub mod Lists
pub mod HeadLaws
