pub mod Paths
pub mod NamespaceLemmas
pub mod PlanLemmas
pub mod PlanLoop
pub mod MadeLemmas
