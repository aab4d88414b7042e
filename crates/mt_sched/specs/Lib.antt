pub mod Plan
pub mod PlanSteps
pub mod PlanOfJob
pub mod Laws
pub mod Plans
