-- What was put.
use Rattle.std.proofs.Common.{◌≡◌, true, false, [], ◌++◌, take, drop, sym, ◌∙◌, refl, Result, Ok, Err, arith, true≢false}
use Rattle.std.specs.Prelude.{is_err}
use Rattle.std.proofs.lemmas.List.{append-nil, take_all, take-append-drop}
use Rattle.smk_world.specs.declared.event.Failed.{Failed}
use Rattle.smk_world.specs.Devices.{Sunk, HasPut}
use Rattle.smk_report.specs.Lines.{Text}
use Rattle.smk_keep_lock.specs.Putting.{IsPrefix, IsWholeFor, Put, HasPutSome}

pub put_nothing : (a : Sunk) (P : Text → Type 0) → P [] → Put a a P
put_nothing a P start = λ now e. (now, e, ([], sym (append-nil now), start))

pub put_whole : (a b : Sunk) (text : Text) (u : Unit {0}) → HasPut {T = Unit {0}} {E = Failed} a b text (Ok u) → Put a b (λ t. t ≡ text)
put_whole a b text u h = λ now e.
    let k = h.put.told now e in
    let full = k.2.2 refl in
    (k.0, k.1, (take k.2.0 text, k.2.3, take_all k.2.0 text (omega (arith, full))))

pub put_front : (a b : Sunk) (text : Text) (x : Failed) → HasPut {T = Unit {0}} {E = Failed} a b text (Err x) → Put a b (λ t. IsPrefix t text)
put_front a b text x h = λ now e.
    let k = h.put.told now e in
    (k.0, k.1, (take k.2.0 text, k.2.3, (drop k.2.0 text, sym (take-append-drop k.2.0 text))))

pub put_as : (a b : Sunk) (P Q : Text → Type 0) → ((t : Text) → P t → Q t) → Put a b P → Put a b Q
put_as a b P Q more h = λ now e. let k = h now e in (k.0, k.1, (k.2.0, k.2.1, more k.2.0 k.2.2))

pub whole_text : (text t : Text) → t ≡ text → IsWholeFor 0 text t
whole_text text t e = (([], sym e ∙ sym (append-nil t)), λ zero. e)

pub front_text : (text t : Text) → IsPrefix t text → IsWholeFor 6 text t
front_text text t h = (h, λ zero. absurd (omega (arith, zero)))

pub put_some : (a b : Sunk) (text : Text) (r : Result (Unit {0}) Failed) → HasPut a b text r → HasPutSome (is_err r) a b
put_some a b text (Ok u) h = record { stays = λ quiet some. h.put.stays some refl; cause = h.cause; quiet = λ quiet. h.quiet }
put_some a b text (Err x) h =
    record { stays = λ quiet. absurd (true≢false quiet); cause = h.cause; quiet = λ quiet. absurd (true≢false quiet) }

pub put_none : (a : Sunk) → HasPutSome false a a
put_none a = record {
  stays = λ quiet some. some;
  cause = record { later = omega arith; rose = λ failure. absurd (true≢false (sym failure)) };
  quiet = λ quiet. refl;
}
