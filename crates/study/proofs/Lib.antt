pub mod FormLaws
pub mod CallLaws
