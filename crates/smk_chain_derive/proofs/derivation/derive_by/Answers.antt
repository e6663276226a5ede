use Rattle.std.proofs.Common.{◌==◌, ◌∙◌, Bool, sym}
use Rattle.smk_world.specs.Trees.{Path}
use Rattle.smk_choose.specs.Told.{told_by}
use Rattle.smk_chain.specs.Derive.{height}
use Rattle.smk_chain_derive.proofs.Refused.{none_found, deep_told}
use Rattle.smk_chain_derive.proofs.derivation.derive_by.Goals as goal

pub derive_shallow-requires : goal.derive_shallow-requires
derive_shallow-requires c =
    let f : Path → Bool = λ p. height c.args.flow.now (told_by c.args.sources.now) c.args.lists 201 p == 201 in
    record { guide = c.requires.guide; covered = c.requires.covered; shallow = none_found f c.args.targets.now (sym c.in-Ok-None.field-0-is ∙ c.in-Ok-None.ensures) }

pub returns-in-Ok-Some-clause-fault : goal.returns-in-Ok-Some-clause-fault
returns-in-Ok-Some-clause-fault c = λ image is known.
    deep_told c.args.flow.now (told_by c.args.sources.now) image c.args.lists c.args.targets.now c.in-Ok-Some.path (sym c.in-Ok-Some.field-0-is ∙ c.in-Ok-Some.ensures)
