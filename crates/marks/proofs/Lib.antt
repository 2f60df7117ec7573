-- Claims is what the marks promise beyond the contracts of their calls; the rest are steps to it, each subject's in its folder.
pub mod Claims
