-- Which jobs have a command.
use Rattle.std.specs.Prelude.{◌&&◌, ℕ, Bool, is_none}
use Rattle.smk_flow.specs.declared.job.Job.{Job}
use Rattle.smk_format.specs.Commands.{excess, missing}
use Rattle.smk_format.specs.Refused.{command_of}

-- no field of its command is without a value, and its text, for so many cores, is one that can be run
abbrev pub has_command : ℕ → Job → Bool
has_command cores job = is_none (missing job) && is_none (excess (command_of cores job))
