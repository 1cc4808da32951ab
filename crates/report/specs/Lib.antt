pub mod Supports
pub mod SupportLaws
pub mod ReportedLaws
