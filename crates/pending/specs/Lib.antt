-- How the pending changes are kept, and what taking those due comes to.
pub mod Flat
pub mod FlatLaws
pub mod Kept
pub mod Taking
