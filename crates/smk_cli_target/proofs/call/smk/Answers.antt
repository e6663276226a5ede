use Rattle.std.proofs.Common.{refl, sym, [], append-nil, inl, inr}
use Rattle.smk_report.specs.Faults.{fault_text}
use Rattle.smk_report.specs.declared.fault.Fault.TheVariants as fault
use Rattle.smk_cli_target.proofs.Empty.{leaves_at_start, log_at_start, text_at_start}
use Rattle.smk_cli_target.proofs.call.smk.Goals as goal

pub returns-clause-leaves : goal.returns-clause-leaves
returns-clause-leaves g c = leaves_at_start _ _ c.requires.none_runs

pub returns-clause-log : goal.returns-clause-log
returns-clause-log g c = λ w told. (w, told, ([], tt, log_at_start g.W.Files.act _ w _ _, refl))

pub returns-clause-text : goal.returns-clause-text
returns-clause-text g c = λ w told. (w, told, ([], tt, (λ after put. (after, put, ([], sym (append-nil after), text_at_start g.W.Files.act _ w))), refl))

pub returns-clause-line : goal.returns-clause-line
returns-clause-line g c = record { line = λ after put. (after, put, ([], sym (append-nil after), ((fault_text fault.OutOfMemory, refl), inr (inr refl)))); stays = inl (λ h. h) }
