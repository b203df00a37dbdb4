pub mod OpsStands
