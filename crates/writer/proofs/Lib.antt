pub mod OctetLaws
pub mod WriterLaws
pub mod DraftLaws
