pub mod Checked
pub mod Bare
pub mod TextsRead
pub mod NamesAdded
pub mod Braces
pub mod RuleFaults
pub mod RulesByName
pub mod RulesPass
