pub mod FieldLaws
pub mod StandLaws
pub mod NamedFields
