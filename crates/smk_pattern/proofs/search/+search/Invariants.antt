use Rattle.std.proofs.Common.{◌≡◌, ◌+◌, ◌∷◌, length, List, ℕ, vec_len, ◌*◌, ◌≤◌}
use Rattle.smk_pattern.specs.declared.table.Vain.{Vain}
use Rattle.smk_pattern.specs.Searching.{RestFits, FitsNowhere, Leads, IsPlace, now_of}
use Rattle.smk_pattern.specs.Pieces.{parts_of}
use Rattle.smk_pattern.specs.Shapes.Part.{wild}
use Rattle.smk_pattern.specs.Tables.{KeepsAll, Serves}
use Rattle.smk_pattern.proofs.search.+search.Given as goal

abbrev pub decreases-search : goal.decreases-search
decreases-search l = 8 * length l.pieces.now + 3

abbrev pub decreases-find : goal.decreases-find
decreases-find l = 8 * length l.pieces.now + 2

abbrev pub decreases-anew : goal.decreases-anew
decreases-anew l = 8 * length l.pieces.now + 1

abbrev pub decreases-walk : goal.decreases-walk
decreases-walk l = 8 * length l.pieces.now

abbrev pub decreases-step : goal.decreases-step
decreases-step l = 8 * length l.later.now + 7

abbrev pub decreases-open : goal.decreases-open
decreases-open l = 8 * length l.later.now + 6

abbrev pub decreases-longest : goal.decreases-longest
decreases-longest l = 8 * length l.later.now + 5

abbrev pub decreases-with_value : goal.decreases-with_value
decreases-with_value l = 8 * length l.later.now + 4

abbrev pub decreases-anew-tables : goal.decreases-anew-tables
decreases-anew-tables l = length l.ahead

-- the loop has got to a place
abbrev pub invariant-anew-tables : goal.invariant-anew-tables
invariant-anew-tables l = record {
  leads : Leads (parts_of l.fn.pieces) (parts_of l.ahead) l.fn.testers (now_of l.fn.values.items) (now_of l.values.items) l.fn.text l.rest;
  place : IsPlace (parts_of l.ahead) l.fn.testers l.fn.behind (now_of l.values.items) l.rest;
  testers : l.testers ≡ l.fn.testers;
  within : length l.ahead ≤ length l.fn.pieces;
}

abbrev pub decreases-walk-pieces : goal.decreases-walk-pieces
decreases-walk-pieces l = length l.ahead

abbrev pub invariant-walk-pieces : goal.invariant-walk-pieces
invariant-walk-pieces l = record {
  leads : Leads (parts_of l.fn.pieces) (parts_of l.ahead) l.fn.testers (now_of l.fn.values.items) (now_of l.values.items) l.fn.text l.rest;
  place : IsPlace (parts_of l.ahead) l.fn.testers l.fn.behind (now_of l.values.items) l.rest;
  testers : l.testers ≡ l.fn.testers;
  within : length l.ahead ≤ length l.fn.pieces;
  serves : Serves (now_of l.values.items) (parts_of l.ahead) l.fn.testers l.rest l.vain;
  lifts : (a b : Vain) → KeepsAll (now_of l.values.items) (parts_of l.ahead) l.fn.testers l.rest a b →
      KeepsAll (now_of l.fn.values.items) (parts_of l.fn.pieces) l.fn.testers l.fn.text a b;
  keeps : FitsNowhere (parts_of l.ahead) l.fn.testers (now_of l.values.items) l.rest →
      KeepsAll (now_of l.fn.values.items) (parts_of l.fn.pieces) l.fn.testers l.fn.text l.fn.vain l.vain;
}

abbrev pub invariant-longest-loop-dropped : goal.invariant-longest-loop-dropped
invariant-longest-loop-dropped l = record {
  known : now_of l.values.items ≡ now_of l.fn.values.items;
  testers : l.testers ≡ l.fn.testers;
  shorter : (value : List ℕ) (more : List (List ℕ)) →
      RestFits (wild (vec_len l.fn.values) ∷ parts_of l.fn.later) l.fn.testers (now_of l.fn.values.items) l.fn.text (value ∷ more) →
      length value + l.dropped ≤ length l.fn.text;
  keeps : KeepsAll (now_of l.fn.values.items) (wild (vec_len l.fn.values) ∷ parts_of l.fn.later) l.fn.testers l.fn.text l.fn.vain l.vain;
}
