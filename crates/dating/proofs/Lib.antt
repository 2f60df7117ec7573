-- Claims and Known are what is promised of the dating line, the writer and the answers beyond their contracts;
-- the rest are steps to them, each subject's in its folder.
pub mod Claims
pub mod Known
