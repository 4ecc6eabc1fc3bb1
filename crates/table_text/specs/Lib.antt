pub mod BestText
pub mod EndsText
pub mod FaultText
pub mod RouteText
pub mod SurveyText
pub mod TableText
pub mod ViewText
