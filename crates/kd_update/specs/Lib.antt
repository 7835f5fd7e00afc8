pub mod CarriedLaws
pub mod Carrying
pub mod CarryingLaws
pub mod ChargingLaws
pub mod Judging
pub mod ProperLaws
pub mod SettingLaws
pub mod SuitingLaws
