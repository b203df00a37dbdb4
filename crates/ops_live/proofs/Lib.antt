mod KeyLaws
mod StartCases
mod TurnCases
mod StepCases
