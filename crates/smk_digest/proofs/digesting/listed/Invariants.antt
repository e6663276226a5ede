use Rattle.std.proofs.Common.{◌≡◌, ◌++◌}
use Rattle.smk_digest.proofs.digesting.listed.Given as goal

abbrev pub invariant-loop-element : goal.invariant-loop-element
invariant-loop-element g l = l.list ++ l.element-iterator.rest.items ≡ l.fn.elements.items
