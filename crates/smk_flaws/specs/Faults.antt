-- Faults of reading, each made of those below. What is wrong is carried on whole; a failed call and want of memory are said alike in all layers.
use Rattle.smk_flow.specs.declared.fault.FlowFault.{FlowFault}
use Rattle.smk_flow.specs.declared.fault.FlowFault.TheVariants as flow
use Rattle.smk_flaws.specs.declared.flaw.SaidFlaw.TheVariants.{Rules}
use Rattle.smk_flaws.specs.declared.flaw.Flaw.TheVariants.{File, Said}
use Rattle.smk_flaws.specs.declared.fault.FileFault.{FileFault}
use Rattle.smk_flaws.specs.declared.fault.FileFault.TheVariants as file
use Rattle.smk_flaws.specs.declared.fault.EvalFault.{EvalFault}
use Rattle.smk_flaws.specs.declared.fault.EvalFault.TheVariants as said
use Rattle.smk_flaws.specs.declared.fault.LoadFault.{LoadFault}
use Rattle.smk_flaws.specs.declared.fault.LoadFault.TheVariants as fault

-- the fault of what files say that has this one of their rules
abbrev pub of_flow : FlowFault → EvalFault
of_flow flow.OutOfMemory = said.OutOfMemory
of_flow f = said.Flawed (Rules f)

-- the fault of the folder that has this one of its files
abbrev pub of_file : FileFault → LoadFault
of_file (file.Flawed f) = fault.Flawed (File f)
of_file file.Device = fault.Device
of_file file.OutOfMemory = fault.OutOfMemory

-- the fault of the folder that has this one of what its files say
abbrev pub of_eval : EvalFault → LoadFault
of_eval (said.Flawed f) = fault.Flawed (Said f)
of_eval said.OutOfMemory = fault.OutOfMemory
