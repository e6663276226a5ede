use Rattle.std.proofs.Common.{refl}
use Rattle.smk_world_mem.proofs.Mem.{agrees_after, orderly_after, called_after, failed_err}
use Rattle.smk_world_mem.proofs.Causes.{caused_files}
use Rattle.smk_world_mem.proofs.work.MemWorkFiles.read.Goals as goal

pub invariant_of-self : goal.invariant_of-self
invariant_of-self c = let a = c.args.self.now in record { agrees = agrees_after _ _ _ _ _ c.in-Ok.ensures.adds c.args.self.now.told c.args.self.now.agrees; orderly = orderly_after _ _ _ _ _ c.in-Ok.ensures.adds c.args.self.now.told _ _ c.args.self.now.orderly (λ cs. refl) refl refl; rooted = c.args.self.now.rooted; caused = caused_files a.told c.is_failing-fails.result a.failing a.stop_after a.killed a.calls c.saturating_add-self.result a.faults c.bumped-self.result a.next _ _ _ _ _ c.in-Ok.ensures.adds a.caused c.saturating_add-self.ensures c.is_failing-fails.ensures c.bumped-self.ensures.bound (λ ks. refl) }

pub returns-in-Ok : goal.returns-in-Ok
returns-in-Ok c = called_after _ _ _ _ _ c.in-Ok.ensures.adds c.args.self.now.told c.args.self.now.agrees c.args.self.now.children c.args.self.now.next c.args.self.now.orderly c.args.self.now.rooted (λ cs. refl) refl refl c.args.self.now.faults c.bumped-self.result c.bumped-self.ensures.later (λ e. c.bumped-self.ensures.rose (c.in-Ok.ensures.err (failed_err _ e))) refl
