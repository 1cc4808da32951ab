pub mod Scanning
pub mod RunLaws
pub mod StateLaws
pub mod ScanningLaws
