pub mod ObjectLemmas
mod InstanceLemmas
mod SettingLemmas
mod NameLemmas
mod SuperLemmas
mod ClassLemmas
