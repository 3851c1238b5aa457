use Rattle.std.proofs.Common.{◌≡◌, ◌∙◌, ℕ, ◌+◌, List, [], ◌++◌, take, drop, sym, ap, append_assoc, Some, None, Ok, length, ◌-◌, length-drop}
use Rattle.std.specs.Prelude.{Option}
use Rattle.std.proofs.Math.Seq.{take-add, take-length}
use Rattle.std.proofs.lemmas.List.{take-append-drop}
use Rattle.byte_port.specs.Causes.{Grew, TakesIn, IsReading, IsRead, HandsOver}

-- one write more
pub grew-more : (E : Type 0) (a b c : Option (List ℕ)) (text piece : List ℕ) (d n : ℕ) → Grew a b (take d text) → piece ≡ drop d text → TakesIn {E = E} b c (Ok n) piece → Grew a c (take (d + n) text)
grew-more E None b c text piece d n g e t = tt
grew-more E (Some x) None c text piece d n g e t = absurd g
grew-more E (Some x) (Some y) None text piece d n g e t = absurd t
grew-more E (Some x) (Some y) (Some z) text piece d n g e t =
    t ∙ ap (λ bs. y ++ take n bs) e ∙ ap (λ bs. bs ++ take n (drop d text)) g ∙ append_assoc x (take d text) (take n (drop d text)) ∙ ap (λ bs. x ++ bs) (sym (take-add d n text))

pub rest-is : (text : List ℕ) (d : ℕ) → take (length text - d) (drop d text) ≡ drop d text
rest-is text d = ap (λ n. take n (drop d text)) (sym (length-drop d text)) ∙ take-length (drop d text)

-- one read more
pub reading-more : (E : Type 0) (a b c : Option (List ℕ)) (read out : List ℕ) (n : ℕ) → IsReading a b read → HandsOver {E = E} b c (Ok n) out → IsReading a c (read ++ take n out)
reading-more E None b c read out n r h = tt
reading-more E (Some x) None c read out n r h = absurd r
reading-more E (Some x) (Some y) None read out n r h = absurd h
reading-more E (Some x) (Some y) (Some z) read out n r h =
    r ∙ ap (λ bs. read ++ bs) (sym (take-append-drop n y)) ∙ sym (append_assoc read (take n y) (drop n y)) ∙ ap (λ bs. (read ++ bs) ++ drop n y) (sym h.1) ∙ ap (λ bs. (read ++ take n out) ++ bs) (sym h.2)

-- what was read so far is a front of what was left
pub reading-rest : (a b : Option (List ℕ)) (read : List ℕ) → IsReading a b read → (rest : List ℕ) × IsRead a (read ++ rest)
reading-rest None b read r = ([], tt)
reading-rest (Some x) None read r = absurd r
reading-rest (Some x) (Some y) read r = (y, sym r)
