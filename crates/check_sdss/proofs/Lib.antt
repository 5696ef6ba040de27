pub mod SdsLaws
