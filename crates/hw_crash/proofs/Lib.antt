pub mod CrashLaws
pub mod SampleLaws
pub mod CutLaws
pub mod LeftLaws
