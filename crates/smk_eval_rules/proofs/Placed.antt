-- A command with places, from one brace to the next.
use Rattle.std.proofs.Common.{◌≡◌, ℕ, suc, ◌+◌, ◌-◌, ◌<◌, ◌≤◌, Bool, true, false, cond, List, [], ◌∷◌, ◌++◌, take, drop, length, refl, ap, sym, ◌∙◌, append_assoc, append-nil, true≢false, arith}
use Rattle.std.proofs.lemmas.List.{drop_all}
use Rattle.smk_template.specs.Templates.{Text, Symbol, Plain, Field, Loose, is_brace, first_brace, symbols, template_of}
use Rattle.smk_template.proofs.Spelled.{template_again, walked_front}
use Rattle.smk_eval_rules.specs.declared.logs.LogItem.{LogItem}
use Rattle.smk_eval_rules.specs.Logs.{is_closed, later_places, place_field, placed, placed_symbol, placed_symbols}

-- ## Places in a row

pub later_more : (newer new was all : Text) (k end : ℕ) → k < end → newer ≡ new ++ place_field k → new ≡ was ++ 32 ∷ [] → was ++ later_places k (end - k) ≡ all
    → newer ++ later_places (k + 1) (end - (k + 1)) ≡ all
later_more newer new was all k end lt m n h =
    ap (λ (t : Text). t ++ later_places (k + 1) (end - (k + 1))) (m ∙ ap (λ (t : Text). t ++ place_field k) n)
    ∙ append_assoc (was ++ 32 ∷ []) (place_field k) (later_places (k + 1) (end - (k + 1)))
    ∙ append_assoc was (32 ∷ []) (place_field k ++ later_places (k + 1) (end - (k + 1)))
    ∙ ap (λ (n : ℕ). was ++ later_places k n) (sym one)
    ∙ h
  where
    one : end - k ≡ suc (end - (k + 1))
    one = omega (arith, lt)

-- ## Symbols in a row

plain_placed : (items : List LogItem) (b : ℕ) (ss : List Symbol) → is_brace b ≡ false → placed_symbols items (Plain b ∷ ss) ≡ b ∷ placed_symbols items ss
plain_placed items b ss e = ap (λ (v : Bool). cond v (b ∷ b ∷ []) (b ∷ []) ++ placed_symbols items ss) e

placed_front : (items : List LogItem) (t : Text) → placed items t ≡ take (first_brace t) t ++ placed items (drop (first_brace t) t)
placed_front items t = walked_front (placed_symbols items) refl (plain_placed items) t

front_is : (rest front : Text) (k : ℕ) → front ≡ take k rest → k ≡ first_brace rest → front ≡ take (first_brace rest) rest
front_is rest front k f e = f ∙ ap (λ (n : ℕ). take n rest) e

at_is : (rest at : Text) (k : ℕ) → at ≡ drop k rest → k ≡ first_brace rest → drop (first_brace rest) rest ≡ at
at_is rest at k a e = ap (λ (n : ℕ). drop n rest) (sym e) ∙ sym a

-- what is made so far with the front is what is to be made up to there
placed_up_to : (items : List LogItem) (new was all front rest at : Text) (k : ℕ) → new ≡ was ++ front → front ≡ take k rest → k ≡ first_brace rest → at ≡ drop k rest
    → was ++ placed items rest ≡ all → new ++ placed items at ≡ all
placed_up_to items new was all front rest at k m f e a h =
    ap (λ (t : Text). t ++ placed items at) m
    ∙ append_assoc was front (placed items at)
    ∙ ap (λ (t : Text). was ++ (front ++ placed items t)) (sym (at_is rest at k a e))
    ∙ ap (λ (t : Text). was ++ (t ++ placed items (drop (first_brace rest) rest))) (front_is rest front k f e)
    ∙ ap (λ (t : Text). was ++ t) (sym (placed_front items rest))
    ∙ h

-- nothing stands behind the front
pub placed_end : (items : List LogItem) (new was all front rest : Text) (k : ℕ) → new ≡ was ++ front → front ≡ take k rest → k ≡ first_brace rest → length rest ≤ k
    → was ++ placed items rest ≡ all → new ≡ all
placed_end items new was all front rest k m f e le h =
    sym (append-nil new)
    ∙ placed_up_to items new was all front rest [] k m f e (sym (drop_all k rest le)) h

closed_step : (items : List LogItem) (s : Symbol) (ss : List Symbol) → is_closed s ≡ true → placed_symbols items (s ∷ ss) ≡ placed_symbol items s ++ placed_symbols items ss
closed_step items s ss e = ap (λ (v : Bool). cond v (placed_symbol items s ++ placed_symbols items ss) (template_of (s ∷ ss))) e

loose_step : (items : List LogItem) (s : Symbol) (ss : List Symbol) → is_closed s ≡ false → placed_symbols items (s ∷ ss) ≡ template_of (s ∷ ss)
loose_step items s ss e = ap (λ (v : Bool). cond v (placed_symbol items s ++ placed_symbols items ss) (template_of (s ∷ ss))) e

loose_none : (items : List LogItem) (s : Symbol) → is_closed s ≡ false → placed_symbol items s ≡ []
loose_none items (Plain b) e = absurd (true≢false e)
loose_none items (Field field) e = absurd (true≢false e)
loose_none items (Loose text) e = refl

-- a symbol stands there, and then more
pub placed_more : (items : List LogItem) (newer new was all front rest at after : Text) (k : ℕ) (s : Symbol) → newer ≡ new ++ placed_symbol items s → new ≡ was ++ front → front ≡ take k rest
    → k ≡ first_brace rest → at ≡ drop k rest → symbols at ≡ s ∷ symbols after → is_closed s ≡ true → was ++ placed items rest ≡ all → newer ++ placed items after ≡ all
placed_more items newer new was all front rest at after k s w m f e a read closed h =
    ap (λ (t : Text). t ++ placed items after) w
    ∙ append_assoc new (placed_symbol items s) (placed items after)
    ∙ ap (λ (t : Text). new ++ t) (sym (ap (placed_symbols items) read ∙ closed_step items s (symbols after) closed))
    ∙ placed_up_to items new was all front rest at k m f e a h

-- a brace that belongs to none stands there
pub placed_stop : (items : List LogItem) (last newer new was all front rest at after : Text) (k : ℕ) (s : Symbol) → last ≡ newer ++ at → newer ≡ new ++ placed_symbol items s → new ≡ was ++ front
    → front ≡ take k rest → k ≡ first_brace rest → at ≡ drop k rest → symbols at ≡ s ∷ symbols after → is_closed s ≡ false → was ++ placed items rest ≡ all → last ≡ all
placed_stop items last newer new was all front rest at after k s l w m f e a read loose h =
    l
    ∙ ap (λ (t : Text). t ++ at) (w ∙ ap (λ (t : Text). new ++ t) (loose_none items s loose) ∙ append-nil new)
    ∙ ap (λ (t : Text). new ++ t) (sym (ap (placed_symbols items) read ∙ loose_step items s (symbols after) loose ∙ ap template_of (sym read) ∙ template_again at))
    ∙ placed_up_to items new was all front rest at k m f e a h
