pub mod OpsCodeLaws
