use Rattle.std.proofs.Common.{◌≡◌, ◌<◌, ◌≤◌, ℕ, List, Some, length, set, refl, sym, ap, ◌∙◌, subst, arith}
use Rattle.std.specs.List.{slice_get}
use Rattle.std.proofs.lemmas.Option.{slice_get_read}
use Rattle.smk_core.specs.declared.place.TheConstants.{NONE}
use Rattle.smk_core.specs.Lines.{Line, IsInLine, present_in, is_number}
use Rattle.smk_core.proofs.Entries.{put_in_line, put_present, number_is, number_own}
use Rattle.smk_core.proofs.ready.Ready.set.Goals as goal

pub put-requires : goal.put-requires
put-requires c =
    let places = c.self.inside.places.items in
    let many : length places ≡ length c.args.self.now.asks = c.self.invariant.as_many ∙ ap (λ (l : Line). length l.asks) c.self.view_is in
    let inside : c.args.job < length places = omega arith in
    c.self.invariant.there c.args.job c.index-place.result.now (slice_get_read places (length places) c.args.job c.index-place.result.now refl inside c.index-place.ensures)

pub invariant_of-self : goal.invariant_of-self
invariant_of-self c =
    let places = c.self.inside.places.items in
    let job = c.args.job in
    let place = c.index-place.result.now in
    let number = c.number_if-number.result in
    let many : length places ≡ length c.args.self.now.asks = c.self.invariant.as_many ∙ ap (λ (l : Line). length l.asks) c.self.view_is in
    let inside : job < length places = omega arith in
    let at : slice_get places job ≡ Some place = slice_get_read places (length places) job place refl inside c.index-place.ensures in
    let own : number < NONE → number ≡ job = λ h. c.number_if-number.ensures ∙ number_own job c.args.is_ready (subst (λ (n : ℕ). n < NONE) c.number_if-number.ensures h) in
    subst (λ (ls : List (List ℕ)). IsInLine c.self.inside.asks places ls) (sym c.put.ensures)
    (put_in_line c.self.inside.asks places c.self.inside.lines.items c.self.invariant job place at number own)

pub returns-clause-present : goal.returns-clause-present
returns-clause-present c =
    let places = c.self.inside.places.items in
    let lines = c.self.inside.lines.items in
    let job = c.args.job in
    let place = c.index-place.result.now in
    let number = c.number_if-number.result in
    let many : length places ≡ length c.args.self.now.asks = c.self.invariant.as_many ∙ ap (λ (l : Line). length l.asks) c.self.view_is in
    let inside : job < length places = omega arith in
    let few : length c.self.inside.asks ≤ NONE = c.self.invariant.few in
    let as_many : length places ≡ length c.self.inside.asks = c.self.invariant.as_many in
    let below : job < NONE = omega arith in
    let at : slice_get places job ≡ Some place = slice_get_read places (length places) job place refl inside c.index-place.ensures in
    ap (λ (ls : List (List ℕ)). present_in places ls) c.put.ensures
    ∙ put_present c.self.inside.asks places lines c.self.invariant job place at number
    ∙ ap (set (present_in places lines) job) (ap (λ (n : ℕ). is_number (Some n)) c.number_if-number.ensures ∙ number_is job c.args.is_ready below)
    ∙ ap (λ (l : Line). set l.present job c.args.is_ready) c.self.view_is
