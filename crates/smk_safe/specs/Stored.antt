-- What a loaded store tells a run: the first serial, and the marks and notes to be settled.
use Rattle.std.specs.Prelude.{◌≡◌, ℕ, suc, List, Some}
use Rattle.smk_world.specs.World.{World}
use Rattle.smk_store.specs.Loading.{IsStoreOf}
use Rattle.smk_store.specs.Serials.{next_serial}
use Rattle.smk_store.specs.Soundness.{Outside}
use Rattle.smk_store.specs.Steadying.{all_signs}
use Rattle.smk_store.specs.Stores.{Known}
use Rattle.smk_laws_protocol.specs.Protocol.{HasAllMarks, now}
use Rattle.smk_laws_protocol.specs.Midway.{IsTop}

-- The next serial is one above all that an unmarked record of the folder names.
abbrev pub NextSerialIsAbove : Type 0
NextSerialIsAbove =
    (o : Outside) (w : World) (store : List Known) (first : ℕ) → IsStoreOf (now o w) store → next_serial store ≡ Some first → (top : ℕ) × (first ≡ suc top) × IsTop o w top

-- Its signs are all marks and notes of the folder.
abbrev pub SignsAreAll : Type 0
SignsAreAll = (o : Outside) (w : World) (store : List Known) → IsStoreOf (now o w) store → HasAllMarks o (now o w) (all_signs store)
