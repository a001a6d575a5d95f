pub mod FlowRules
