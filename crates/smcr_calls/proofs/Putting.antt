-- Texts that are put on a page piece by piece: how a loop over a list goes on, fails and gets to its end.
use Rattle.std.proofs.Common.{◌≡◌, ◌∙◌, ℕ, ◌+◌, ◌<◌, ◌≤◌, Bool, false, List, [], ◌++◌, length, drop, get_or, Option, Result, Ok, Err, sym, ap, subst}
use Rattle.std.specs.List.{flat_map}
use Rattle.std.specs.Result.{IsErr}
use Rattle.std.proofs.lemmas.List.{drop_more, drop_all}
use Rattle.byte_port.specs.Pages.{Stands, Wrote}
use Rattle.pipe_model.specs.declared.entry.Entry.{Entry}
use Rattle.scene_text.specs.HistoryText.{Printed, entry_text, entries_text}
use Rattle.byte_port.proofs.Paging.{Going, behind, cut_off}

module _ (a : Option (List ℕ)) (p : List ℕ) (b : Option (List ℕ)) (q piece text : List ℕ) where
  -- the last piece was put, or a front of it
  pub last_one : Going a p b q piece text → (whole : Bool) (c : Option (List ℕ)) (r : List ℕ) → Stands whole b q c r piece → Stands whole a p c r text
  last_one going whole c r s = subst (λ zs. Stands whole a p c r zs) going.all (behind a p whole c r going.said piece b q going.so_far s)

  -- a call that failed put a front of the next piece
  pub broke_off : {T E : Type 0} (rest later : List ℕ) (result : Result T E) (c : Option (List ℕ)) (r : List ℕ) → IsErr result → Going a p b q rest text → rest ≡ piece ++ later → Stands false b q c r piece → Wrote result a p c r text
  broke_off rest later (Ok x) c r failed going next s = absurd (cc)
  broke_off rest later (Err e) c r failed going next s = cut_off a p b q rest text going c r piece later next s

-- the text of the next item stands in front of those of the items behind it
pub next_text : {X : Type 0} (text : X → List ℕ) (xs : List X) (i : ℕ) (d : X) → i < length xs → flat_map text (drop i xs) ≡ text (get_or xs i d) ++ flat_map text (drop (i + 1) xs)
next_text text xs i d l = ap (flat_map text) (drop_more xs i d l)

-- the text of the next entry stands in front of those of the entries behind it
pub next_entry : (p : Printed) (history : List Entry) (i : ℕ) (e : Entry) → e ≡ get_or history i e → i < length history → entries_text p (i + 1) (drop i history) ≡ entry_text p (i + 1) e ++ entries_text p (i + 1 + 1) (drop (i + 1) history)
next_entry p history i e is l =
    ap (entries_text p (i + 1)) (drop_more history i e l) ∙ ap (λ x. entry_text p (i + 1) x ++ entries_text p (i + 1 + 1) (drop (i + 1) history)) (sym is)

-- and behind the last one nothing is left
pub none_left : {X : Type 0} (xs : List X) (i : ℕ) → length xs ≤ i → drop i xs ≡ []
none_left xs i end = drop_all i xs end
