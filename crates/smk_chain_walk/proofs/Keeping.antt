-- What is kept of a walk stays right as jobs and paths are added.
use Rattle.std.proofs.Common.{◌≡◌, ◌∙◌, ℕ, ◌+◌, ◌<◌, Bool, true, false, cond, List, [], ◌∷◌, ◌++◌, map, length, Option, Some, None, Result, Ok, Err, IfOk, OnOk, refl, sym, ap, ap₂, subst, arith, true≢false, String, string_bytes, length-append}
use Rattle.std.specs.Prelude.{bytes_eq, nat_eq, is_some, position}
use Rattle.std.specs.declared.alloc.Global.{Global}
use Rattle.std.specs.List.{filter_map, AllByRecursion}
use Rattle.smk_pattern.specs.Shapes.{Text}
use Rattle.std.proofs.lemmas.Slice.Eq.{bytes_eq-Decides}
use Rattle.std.proofs.lemmas.List.{map_push, length-map}
use Rattle.smk_world.specs.Trees.{Path}
use Rattle.smk_flow.specs.Flows.{Flow, Candidate}
use Rattle.smk_choose.specs.declared.choice.Making.{Making}
use Rattle.smk_choose.specs.Choose.{Sources, Choice, Source, Make, Nothing, Ambiguous, choose, maker}
use Rattle.smk_choose.specs.Told.{making}
use Rattle.smk_chain.specs.Derive.{Listings, job, wants, distinct}
use Rattle.smk_chain_walk.specs.declared.reached.Reached.{Reached}
use Rattle.smk_chain_walk.specs.Numbers.{is_job, place_of, number_in, has, added, key, IsSmall}
use Rattle.smk_chain_walk.specs.Links.{number_for, befores_of, AreLower}
use Rattle.smk_chain_walk.specs.Steps.{refused_for, called_for, done_at, is_done, flat, number_done, number_at, AreTold, IsDone, Holds, Keeps}
use Rattle.smk_chain_walk.proofs.Depths.{all_map, called_own, called_source, refused_unmade, all_push}
use Rattle.smk_chain_walk.proofs.Numbers.{place_low, all_low, filter_same}
use Rattle.smk_chain_walk.proofs.Links.{lower_push}
use Rattle.smk_chain_walk.proofs.Placed.{place_more, done_same}
use Rattle.smk_chain_walk.proofs.Apart.{keys_one}
use Rattle.smk_chain_walk.proofs.Adding.{is_its_job, job_is, or_place, place_if, place_push, placed, unplaced, has_place, Within, within_has, within_added}

all_last : {A : Type 0} (P : A → Type 0) (xs : List A) (x : A) → AllByRecursion P (xs ++ x ∷ []) → P x
all_last P [] x h = h.0
all_last P (y ∷ xs) x h = all_last P xs x h.1

map_same : {A B : Type 0} (f g : A → B) (xs : List A) → AllByRecursion (λ x. f x ≡ g x) xs → map f xs ≡ map g xs
map_same f g [] e = refl
map_same f g (x ∷ xs) e = ap₂ ◌∷◌ e.0 (map_same f g xs e.1)

-- what is done stays done
keeps_note : (old new : Reached) (p : Path) (number : Option ℕ) → ((q : Path) → done_at new q ≡ cond (bytes_eq p q) (Some number) (done_at old q)) → Keeps old new
keeps_note old new p number noted q h = ap is_some (noted q) ∙ go (bytes_eq p q)
  where
    go : (b : Bool) → is_some (cond b (Some number) (done_at old q)) ≡ true
    go true = refl
    go false = h

pub note_keeps : (old new : Reached) (p : Path) (number : Option ℕ) → ((q : Path) → done_at new q ≡ cond (bytes_eq p q) (Some number) (done_at old q)) → Keeps old new
note_keeps old new p number noted = keeps_note old new p number noted

pub note_done : (old new : Reached) (p : Path) (number : Option ℕ) → ((q : Path) → done_at new q ≡ cond (bytes_eq p q) (Some number) (done_at old q)) → is_done new p ≡ true
note_done old new p number noted = ap is_some (noted p ∙ ap (λ b. cond b (Some number) (done_at old p)) ((bytes_eq-Decides p p).1 refl))

pub on_push : {E : Type 0} (r : Result ℕ E) (A B C R : Type 0) (o : Option ℕ) (n : ℕ) → IfOk r (λ m. m ≡ n) → OnOk r A → OnOk r B → OnOk r C → (A → B → C → R × (o ≡ Some n)) → IfOk r (λ m. R × (o ≡ Some m))
on_push (Ok m) A B C R o n e a b c f = let r = f a b c in (r.0, r.1 ∙ ap Some (sym e))
on_push (Err x) A B C R o n e a b c f = tt

pub on_number : {E : Type 0} (r : Result ℕ E) (R : Type 0) (o : Option ℕ) (n : ℕ) → IfOk r (λ m. m ≡ n) → R × (o ≡ Some n) → IfOk r (λ m. R × (o ≡ Some m))
on_number (Ok m) R o n e so = (so.0, so.1 ∙ ap Some (sym e))
on_number (Err x) R o n e so = tt

module _ (flow : Flow) (sources : Sources) (L : Listings) where
  number_stays : (cs ds : List Candidate) → Within cs ds → (q : Path) → AllByRecursion (λ c. has cs c ≡ true) (called_for flow sources L q) → number_for flow sources L cs q ≡ number_for flow sources L ds q
  number_stays cs ds w q all = go (choose flow sources q) refl
    where
      go : (ch : Choice) → choose flow sources q ≡ ch → number_in cs (maker ch) ≡ number_in ds (maker ch)
      go Source e = refl
      go (Make c) e =
          let own = called_own flow sources L q c e in
          let there = all_last (λ d. has cs d ≡ true) own.0 c (subst (AllByRecursion (λ d. has cs d ≡ true)) own.1 all) in
          let p = has_place cs (making c) there in
          p.1 ∙ sym (w.kept (making c) p.0 p.1)
      go (Nothing l) e = refl
      go (Ambiguous a b) e = refl

  done_grows : (cs ds : List Candidate) → Within cs ds → (q : Path) (number : Option ℕ) → IsDone flow sources L cs q number → IsDone flow sources L ds q number
  done_grows cs ds w q number d = record {
    calm = d.calm;
    called = all_map (λ c. has cs c ≡ true) (λ c. has ds c ≡ true) (λ c h. within_has cs ds w c h) (called_for flow sources L q) d.called;
    is = d.is ∙ number_stays cs ds w q d.called;
  }

  pub done_source : (cs : List Candidate) (p : Path) → choose flow sources p ≡ Source → IsDone flow sources L cs p None
  done_source cs p e = record {
    calm = refused_unmade flow sources L p Source e refl;
    called = subst (AllByRecursion (λ c. has cs c ≡ true)) (sym (called_source flow sources L p e)) tt;
    is = ap (λ ch. number_in cs (maker ch)) (sym e);
  }

  pub done_job : (cs : List Candidate) (p : Path) (c : Candidate) (n : ℕ) → choose flow sources p ≡ Make c → refused_for flow sources L p ≡ [] →
      AllByRecursion (λ d. has cs d ≡ true) (called_for flow sources L p) → place_of cs (making c) ≡ Some n → IsDone flow sources L cs p (Some n)
  done_job cs p c n e calm all at = record {
    calm = calm;
    called = all;
    is = sym at ∙ ap (λ ch. number_in cs (maker ch)) (sym e);
  }

  -- one more path is noted
  pub holds_note : (old new : Reached) (cs : List Candidate) (p : Path) (number : Option ℕ) → new.jobs ≡ old.jobs → new.befores ≡ old.befores →
      new.texts.keys ≡ old.texts.keys → ((q : Path) → done_at new q ≡ cond (bytes_eq p q) (Some number) (done_at old q)) → (AreTold old.done.entries → AreTold new.done.entries) →
      IsDone flow sources L cs p number → Holds flow sources L old cs → Holds flow sources L new cs
  holds_note old new cs p number jobs befores texts noted told d h = record {
    jobs = jobs ∙ h.jobs;
    numbers = λ m small. ap (position (λ k. bytes_eq (key m) (string_bytes k))) texts ∙ h.numbers m small;
    many = ap length texts ∙ h.many;
    done = λ q k e. go q k (bytes_eq p q) refl (sym (noted q) ∙ e);
    served = all_map (λ (c : Candidate). AllByRecursion (λ (w : Text). is_done old w ≡ true) (wants flow L c)) (λ (c : Candidate). AllByRecursion (λ (w : Text). is_done new w ≡ true) (wants flow L c))
        (λ c all. all_map (λ (w : Text). is_done old w ≡ true) (λ (w : Text). is_done new w ≡ true) (λ w e. keeps_note old new p number noted w e) (wants flow L c) all) cs h.served;
    told = told h.told;
    befores = befores ∙ h.befores;
    lower = subst (AreLower 0) (sym befores) h.lower;
  }
    where
      go : (q : Path) (k : Option ℕ) (b : Bool) → bytes_eq p q ≡ b → cond b (Some number) (done_at old q) ≡ Some k → IsDone flow sources L cs q k
      go q k true e is =
          let same : p ≡ q = (bytes_eq-Decides p q).0 e in
          let one : number ≡ k = cc in
          subst (λ r. IsDone flow sources L cs r k) same (subst (IsDone flow sources L cs p) one d)
      go q k false e is = h.done q k is

  -- the job is there
  pub holds_there : (old : Reached) (cs : List Candidate) (c : Candidate) (n : ℕ) → IsSmall (making c) → number_at old (key (making c)) ≡ Some n →
      Holds flow sources L old cs → Holds flow sources L old (added cs c) × (place_of (added cs c) (making c) ≡ Some n)
  holds_there old cs c n small e h =
      let at : place_of cs (making c) ≡ Some n = sym (h.numbers (making c) small) ∙ e in
      let there : added cs c ≡ cs = ap (λ b. cond b cs (cs ++ c ∷ [])) (placed cs (making c) n at) in
      (subst (Holds flow sources L old) (sym there) h, subst (λ ds. place_of ds (making c) ≡ Some n) (sym there) at)

  number_low : (cs : List Candidate) (q : Path) (k : ℕ) → number_for flow sources L cs q ≡ Some k → k < length cs
  number_low cs q k e = go (maker (choose flow sources q)) e
    where
      go : (o : Option Candidate) → number_in cs o ≡ Some k → k < length cs
      go None e = absurd cc
      go (Some c) e = place_low cs (making c) k e

  -- one more job is there
  pub holds_push : (old new : Reached) (cs : List Candidate) (c : Candidate) (text : String Global) → IsSmall (making c) → string_bytes text ≡ key (making c) →
      number_at old (key (making c)) ≡ None → new.jobs ≡ old.jobs ++ job flow L c ∷ [] → AllByRecursion (λ (w : Text). is_done old w ≡ true) (wants flow L c) →
      new.befores ≡ old.befores ++ distinct nat_eq (filter_map (number_done old) (wants flow L c)) ∷ [] →
      new.texts.keys ≡ old.texts.keys ++ text ∷ [] → new.done.entries ≡ old.done.entries →
      Holds flow sources L old cs → Holds flow sources L new (added cs c) × (place_of (added cs c) (making c) ≡ Some (length old.texts.keys))
  holds_push old new cs c text small is none jobs ready befores texts entries h =
      (subst (Holds flow sources L new) (sym grown) pushed, subst (λ ds. place_of ds (making c) ≡ Some (length old.texts.keys)) (sym grown) last)
    where
      unseen : place_of cs (making c) ≡ None
      unseen = sym (h.numbers (making c) small) ∙ none

      grown : added cs c ≡ cs ++ c ∷ []
      grown = ap (λ b. cond b cs (cs ++ c ∷ [])) (unplaced cs (making c) unseen)

      done : (q : Path) → done_at new q ≡ done_at old q
      done = done_same old new entries

      numbers : (q : List ℕ) → number_at new q ≡ cond (bytes_eq (key (making c)) q) (Some (length old.texts.keys)) (number_at old q)
      numbers q = ap (position (λ k. bytes_eq q (string_bytes k))) texts
          ∙ place_more old.texts.keys text q (ap (number_at old) is ∙ none)
          ∙ ap (λ t. cond (bytes_eq t q) (Some (length old.texts.keys)) (number_at old q)) is

      last : place_of (cs ++ c ∷ []) (making c) ≡ Some (length old.texts.keys)
      last = place_push cs c (making c) ∙ ap (λ o. or_place o (place_if (is_job (making c) c) (length cs))) unseen ∙ ap (λ b. place_if b (length cs)) (is_its_job c) ∙ ap Some (sym h.many)

      number : (m : Making) → IsSmall m → (b : Bool) → bytes_eq (key (making c)) (key m) ≡ b → cond b (Some (length old.texts.keys)) (number_at old (key m)) ≡ place_of (cs ++ c ∷ []) m
      number m sm true e =
          let same : making c ≡ m = keys_one (making c) m small sm ((bytes_eq-Decides (key (making c)) (key m)).0 e) in
          sym last ∙ ap (place_of (cs ++ c ∷ [])) same
      number m sm false e = h.numbers m sm ∙ go (is_job m c) refl ∙ sym (place_push cs c m)
        where
          or_none : (o : Option ℕ) → o ≡ or_place o None
          or_none None = refl
          or_none (Some n) = refl

          go : (b : Bool) → is_job m c ≡ b → place_of cs m ≡ or_place (place_of cs m) (place_if (is_job m c) (length cs))
          go true is = absurd (true≢false (sym ((bytes_eq-Decides (key (making c)) (key m)).1 (ap key (job_is m c is))) ∙ e))
          go false is = or_none (place_of cs m) ∙ ap (λ b. or_place (place_of cs m) (place_if b (length cs))) (sym is)

      more : Within cs (cs ++ c ∷ [])
      more = subst (Within cs) grown (within_added cs c)

      -- a path that is done has the number that it will have
      settled_at : (w : Text) → is_done old w ≡ true → (number_done old w ≡ number_for flow sources L cs w) × (number_for flow sources L cs w ≡ number_for flow sources L (cs ++ c ∷ []) w)
      settled_at w e = at (done_at old w) refl e
        where
          at : (o : Option (Option ℕ)) → done_at old w ≡ o → is_some o ≡ true → (flat o ≡ number_for flow sources L cs w) × (number_for flow sources L cs w ≡ number_for flow sources L (cs ++ c ∷ []) w)
          at (Some k) f g = let d = h.done w k f in (d.is, number_stays cs (cs ++ c ∷ []) more w d.called)
          at None f g = absurd (true≢false (sym g))

      befores_stay : (d : Candidate) → AllByRecursion (λ (w : Text). is_done old w ≡ true) (wants flow L d) → befores_of flow sources L cs d ≡ befores_of flow sources L (cs ++ c ∷ []) d
      befores_stay d all = ap (distinct nat_eq) (filter_same (number_for flow sources L cs) (number_for flow sources L (cs ++ c ∷ [])) (wants flow L d)
          (all_map (λ (w : Text). is_done old w ≡ true) (λ (w : Text). number_for flow sources L cs w ≡ number_for flow sources L (cs ++ c ∷ []) w) (λ w e. (settled_at w e).1) (wants flow L d) all))

      own_befores : distinct nat_eq (filter_map (number_done old) (wants flow L c)) ≡ befores_of flow sources L cs c
      own_befores = ap (distinct nat_eq) (filter_same (number_done old) (number_for flow sources L cs) (wants flow L c)
          (all_map (λ (w : Text). is_done old w ≡ true) (λ (w : Text). number_done old w ≡ number_for flow sources L cs w) (λ w e. (settled_at w e).0) (wants flow L c) ready))

      low : AllByRecursion (λ k. k < length cs) (befores_of flow sources L cs c)
      low = all_low (λ k. k < length cs) (number_for flow sources L cs) (λ w k e. number_low cs w k e) (wants flow L c)

      long_befores : length old.befores ≡ length cs
      long_befores = ap length h.befores ∙ length-map cs (befores_of flow sources L cs)

      still : (d : Candidate) → AllByRecursion (λ (w : Text). is_done old w ≡ true) (wants flow L d) → AllByRecursion (λ (w : Text). is_done new w ≡ true) (wants flow L d)
      still d all = all_map (λ (w : Text). is_done old w ≡ true) (λ (w : Text). is_done new w ≡ true) (λ w e. ap is_some (done w) ∙ e) (wants flow L d) all

      zero_plus : length cs ≡ 0 + length old.befores
      zero_plus = let e = long_befores in omega arith

      pushed : Holds flow sources L new (cs ++ c ∷ [])
      pushed = record {
        jobs = jobs ∙ ap (λ js. js ++ job flow L c ∷ []) h.jobs ∙ sym (map_push (job flow L) cs c);
        numbers = λ m sm. numbers (key m) ∙ number m sm (bytes_eq (key (making c)) (key m)) refl;
        many = ap length texts ∙ length-append old.texts.keys (text ∷ []) ∙ ap (λ n. n + 1) h.many ∙ sym (length-append cs (c ∷ []));
        done = λ q k e. done_grows cs (cs ++ c ∷ []) more q k (h.done q k (sym (done q) ∙ e));
        served = all_push (λ (d : Candidate). AllByRecursion (λ (w : Text). is_done new w ≡ true) (wants flow L d)) cs c
            (all_map (λ (d : Candidate). AllByRecursion (λ (w : Text). is_done old w ≡ true) (wants flow L d)) (λ (d : Candidate). AllByRecursion (λ (w : Text). is_done new w ≡ true) (wants flow L d)) still cs h.served)
            (still c ready);
        told = subst AreTold (sym entries) h.told;
        befores = befores ∙ ap₂ (λ bs b. bs ++ b ∷ []) (h.befores ∙ map_same (befores_of flow sources L cs) (befores_of flow sources L (cs ++ c ∷ [])) cs
            (all_map (λ (d : Candidate). AllByRecursion (λ (w : Text). is_done old w ≡ true) (wants flow L d)) (λ (d : Candidate). befores_of flow sources L cs d ≡ befores_of flow sources L (cs ++ c ∷ []) d) befores_stay cs h.served))
            (own_befores ∙ befores_stay c ready) ∙ sym (map_push (befores_of flow sources L (cs ++ c ∷ [])) cs c);
        lower = subst (AreLower 0) (sym befores) (lower_push 0 old.befores (distinct nat_eq (filter_map (number_done old) (wants flow L c))) h.lower
            (subst (AllByRecursion (λ k. k < 0 + length old.befores)) (sym own_befores) (subst (λ n. AllByRecursion (λ k. k < n) (befores_of flow sources L cs c)) zero_plus low)));
      }
