-- What symbols in a row stand for.
use Rattle.std.proofs.Common.{◌≡◌, ℕ, List, [], ◌∷◌, ◌++◌, map, take, drop, length, ◌≤◌, Some, None, option_map, Bool, true, false, cond, refl, ap, sym, ◌∙◌, append_assoc, append-nil}
use Rattle.std.specs.Prelude.{not}
use Rattle.std.specs.List.{find}
use Rattle.std.proofs.lemmas.List.{drop_all}
use Rattle.std.proofs.lemmas.Option.{none-some}
use Rattle.smk_flow.specs.declared.job.Job.{Job}
use Rattle.smk_template.specs.Templates.{Text, Symbol, Plain, written, symbols, first_brace}
use Rattle.smk_format.specs.Commands.{has_value, first_missing, symbol_text, filled}
use Rattle.smk_template.proofs.Read.{symbols_before}

-- bytes that stand for themselves
pub filled_plain : (job : Job) (n : ℕ) (t : Text) (ss : List Symbol) → filled job n (map Plain t ++ ss) ≡ t ++ filled job n ss
filled_plain job n [] ss = refl
filled_plain job n (b ∷ t) ss = ap (λ (x : Text). b ∷ x) (filled_plain job n t ss)

pub missing_plain : (job : Job) (t : Text) (ss : List Symbol) → first_missing job (map Plain t ++ ss) ≡ first_missing job ss
missing_plain job [] ss = refl
missing_plain job (b ∷ t) ss = missing_plain job t ss

-- up to the first brace
pub filled_front : (job : Job) (n : ℕ) (t : Text) → filled job n (symbols t) ≡ take (first_brace t) t ++ filled job n (symbols (drop (first_brace t) t))
filled_front job n t = ap (filled job n) (symbols_before t) ∙ filled_plain job n (take (first_brace t) t) (symbols (drop (first_brace t) t))

pub missing_front : (job : Job) (t : Text) → first_missing job (symbols t) ≡ first_missing job (symbols (drop (first_brace t) t))
missing_front job t = ap (first_missing job) (symbols_before t) ∙ missing_plain job (take (first_brace t) t) (symbols (drop (first_brace t) t))

-- the first that is missing among a symbol and others
missing_by : (job : Job) (s : Symbol) (v : Bool) (ss : List Symbol) → None ≡ option_map written (cond v (Some s) None) → option_map written (cond v (Some s) (find (λ x. not (has_value job x)) ss)) ≡ first_missing job ss
missing_by job s true ss e = absurd (none-some (written s) e)
missing_by job s false ss e = refl

missing_later : (job : Job) (s : Symbol) (ss : List Symbol) → None ≡ first_missing job (s ∷ []) → first_missing job (s ∷ ss) ≡ first_missing job ss
missing_later job s ss e = missing_by job s (not (has_value job s)) ss e

missing_at : (job : Job) (s : Symbol) (v : Bool) (ss : List Symbol) (word : Text) → Some word ≡ option_map written (cond v (Some s) None) → Some word ≡ option_map written (cond v (Some s) (find (λ x. not (has_value job x)) ss))
missing_at job s true ss word e = e
missing_at job s false ss word e = absurd (none-some word (sym e))

missing_here : (job : Job) (s : Symbol) (ss : List Symbol) (word : Text) → Some word ≡ first_missing job (s ∷ []) → Some word ≡ first_missing job (s ∷ ss)
missing_here job s ss word e = missing_at job s (not (has_value job s)) ss word e

-- ## What the reading of a template goes by

front_is : (rest front : Text) (k : ℕ) → front ≡ take k rest → k ≡ first_brace rest → front ≡ take (first_brace rest) rest
front_is rest front k f e = f ∙ ap (λ (n : ℕ). take n rest) e

at_is : (rest at : Text) (k : ℕ) → at ≡ drop k rest → k ≡ first_brace rest → drop (first_brace rest) rest ≡ at
at_is rest at k a e = ap (λ (n : ℕ). drop n rest) (sym e) ∙ sym a

-- nothing stands behind the front
pub missing_end : (job : Job) (rest : Text) (k : ℕ) → k ≡ first_brace rest → length rest ≤ k → first_missing job (symbols rest) ≡ None
missing_end job rest k e le = missing_front job rest ∙ ap (λ (n : ℕ). first_missing job (symbols (drop n rest))) (sym e) ∙ ap (λ (t : Text). first_missing job (symbols t)) (drop_all k rest le)

pub filled_end : (job : Job) (n : ℕ) (new was all front rest : Text) (k : ℕ) → new ≡ was ++ front → front ≡ take k rest → k ≡ first_brace rest → length rest ≤ k
    → was ++ filled job n (symbols rest) ≡ all → new ≡ all
filled_end job n new was all front rest k m f e le h =
    m ∙ ap (λ (t : Text). was ++ t) (front_is rest front k f e ∙ sym (append-nil (take (first_brace rest) rest)))
    ∙ ap (λ (t : Text). was ++ (take (first_brace rest) rest ++ filled job n (symbols t))) (sym (drop_all k rest le) ∙ ap (λ (m : ℕ). drop m rest) e)
    ∙ ap (λ (t : Text). was ++ t) (sym (filled_front job n rest))
    ∙ h

-- a symbol stands there, and then more
pub missing_found : (job : Job) (rest at after : Text) (k : ℕ) (s : Symbol) (word : Text) → k ≡ first_brace rest → at ≡ drop k rest → symbols at ≡ s ∷ symbols after
    → Some word ≡ first_missing job (s ∷ []) → Some word ≡ first_missing job (symbols rest)
missing_found job rest at after k s word e a read h =
    missing_here job s (symbols after) word h
    ∙ ap (first_missing job) (sym read)
    ∙ sym (missing_front job rest ∙ ap (λ (t : Text). first_missing job (symbols t)) (at_is rest at k a e))

pub missing_more : (job : Job) (rest at after : Text) (k : ℕ) (s : Symbol) → k ≡ first_brace rest → at ≡ drop k rest → symbols at ≡ s ∷ symbols after
    → None ≡ first_missing job (s ∷ []) → first_missing job (symbols rest) ≡ first_missing job (symbols after)
missing_more job rest at after k s e a read h =
    missing_front job rest ∙ ap (λ (t : Text). first_missing job (symbols t)) (at_is rest at k a e)
    ∙ ap (first_missing job) read
    ∙ missing_later job s (symbols after) h

pub filled_more : (job : Job) (n : ℕ) (newer new was all front rest at after : Text) (k : ℕ) (s : Symbol) → newer ≡ new ++ symbol_text job n s → new ≡ was ++ front → front ≡ take k rest
    → k ≡ first_brace rest → at ≡ drop k rest → symbols at ≡ s ∷ symbols after → was ++ filled job n (symbols rest) ≡ all → newer ++ filled job n (symbols after) ≡ all
filled_more job n newer new was all front rest at after k s w m f e a read h =
    ap (λ (t : Text). t ++ filled job n (symbols after)) (w ∙ ap (λ (t : Text). t ++ symbol_text job n s) m)
    ∙ append_assoc (was ++ front) (symbol_text job n s) (filled job n (symbols after))
    ∙ ap (λ (ss : List Symbol). (was ++ front) ++ filled job n ss) (sym read)
    ∙ append_assoc was front (filled job n (symbols at))
    ∙ ap (λ (t : Text). was ++ (front ++ filled job n (symbols t))) (sym (at_is rest at k a e))
    ∙ ap (λ (t : Text). was ++ (t ++ filled job n (symbols (drop (first_brace rest) rest)))) (front_is rest front k f e)
    ∙ ap (λ (t : Text). was ++ t) (sym (filled_front job n rest))
    ∙ h
