-- What an end was told and has not read stands in its element.
use Rattle.std.proofs.Common.{Bool, List, [], ap, arith, drop, false, if◌then◌else◌, inr, length, min, nat_lt, refl, subst, sym, take, true, ℕ, ◌+◌, ◌<◌, ◌==◌, ◌||◌, ◌∙◌, ◌≡◌, ◌≤◌}
use Rattle.std.specs.Prelude.{None, Option, Some, is_some, slice_index_or}
use Rattle.std.proofs.lemmas.Grind.{common_steps}
use Rattle.std.proofs.lemmas.List.{get_or-drop, get_or-take}
use Rattle.pipe_model.specs.Calls.{Hands, Plain, Reads, half_told}
use Rattle.pipe_model.specs.Closing.{cause_of, is_closing}
use Rattle.pipe_model.specs.Ends.{unread}
use Rattle.pipe_model.specs.declared.reply.Reply.{Reply}
use Rattle.pipe_model.specs.declared.reply.Reply.TheVariants.{Empty, End, Ended, Reset}
use Rattle.pipe_model.specs.declared.reply.ResetCause.{ResetCause}
use Rattle.smc_num.specs.Places.{address_of}
use Rattle.pipe_model.specs.Parts.{covered, is_shut}
use Rattle.pipe_model.specs.Pipe.{is_near_part, told}
use Rattle.pipe_model.proofs.Pipes.{told-landed}
use Rattle.history_laws.specs.Lists.{IsAmong}
use Rattle.history_laws.specs.Made.{IsMadeAll}
use Rattle.history_laws.specs.Words.{Entry, Offered, Pipe, Setup, Side, element_size, group_on, half, lends_by, lent, offered, offered_place, other, part, pipe_of, terms_of}
use Rattle.history_laws.proofs.Basics.{other-other}
use Rattle.link_laws.specs.Awaited.{AreOnKnown}
use Rattle.lending_laws.specs.Lendings.{HasElements}
use Rattle.wire_laws.specs.Agreement.{Agrees}
use Rattle.wire_laws.specs.Memory.{StandUnread, byte_in}
use Rattle.wire_laws.proofs.Whole.{agrees}
use Rattle.wire_laws.proofs.Memory.Standing.{all-stand}

module _ (setup : Setup) (payload : List ℕ) (past : List Entry) (elements : HasElements setup) (m : IsMadeAll setup payload past) (known : AreOnKnown setup past) (y : Side) (s : ℕ) (o : Offered) (f : offered y s past ≡ Some o) (i : IsAmong (lends_by s o.link o.offer) (lent setup payload y past)) where
  abbrev Ends : Pipe
  Ends = pipe_of setup payload (group_on s past) s past

  abbrev Reach : ℕ
  Reach = covered (terms_of setup) (other y) (part payload (group_on s past) s past)

  -- of an end, its peer named as the other side
  abbrev Stand : Side → Type 0
  Stand z = offered z s past ≡ Some o → IsAmong (lends_by s o.link o.offer) (lent setup payload z past) → (n : ℕ) → (half z Ends).rd ≤ n → n < Reach
      → byte_in setup payload z (offered_place o.offer).rmb (address_of (element_size setup) (offered_place o.offer) n) past ≡ slice_index_or (half (other y) Ends).out n 0

  pub landed-stand : StandUnread setup payload y s o past Reach
  landed-stand = subst (λ z. Stand z) (other-other y) (λ g j. (all-stand setup payload past elements m known (other y) s o g j).landed) f i

  reach-is : is_near_part (terms_of setup) (part payload (group_on s past) s past) ≡ true → is_shut (half y Ends).phase ≡ false → Reach ≡ (half y Ends).taken.told
  reach-is near = subst (λ z. is_shut (half z Ends).phase ≡ false → Reach ≡ (half z Ends).taken.told) (other-other y)
      (told-landed (terms_of setup) (other y) (part payload (group_on s past) s past) (let a : Agrees setup payload past = agrees setup payload past m known in a.feasible s (group_on s past) (inr refl)) near)

  pub told-stand : is_near_part (terms_of setup) (part payload (group_on s past) s past) ≡ true → is_shut (half y Ends).phase ≡ false → StandUnread setup payload y s o past (half y Ends).taken.told
  told-stand near open-end n low high = landed-stand n low (omega (arith, high, reach-is near open-end))

  -- what a read hands out is what stands there
  take-within : (k j : ℕ) (ns : List ℕ) → j < length (take k ns) → j < k
  take-within k j ns l = grind (arith, common_steps)

  abbrev Handed : List ℕ → Type 0
  Handed bytes = (j : ℕ) → j < length bytes → slice_index_or bytes j 0 ≡ byte_in setup payload y (offered_place o.offer).rmb (address_of (element_size setup) (offered_place o.offer) ((half y Ends).rd + j)) past

  nothing-handed : Handed []
  nothing-handed j l = absurd (omega (arith, l))

  unread-handed : is_near_part (terms_of setup) (part payload (group_on s past) s past) ≡ true → is_shut (half y Ends).phase ≡ false → (n : ℕ) → Handed (take (min n (unread (half y Ends))) (drop (half y Ends).rd (half (other y) Ends).out))
  unread-handed near open-end n j l =
      let k : j < min n (unread (half y Ends)) = take-within (min n (unread (half y Ends))) j (drop (half y Ends).rd (half (other y) Ends).out) l in
      get_or-take (min n (unread (half y Ends))) (drop (half y Ends).rd (half (other y) Ends).out) j 0 k ∙
      (get_or-drop (half y Ends).rd (half (other y) Ends).out j 0 ∙ sym (told-stand near open-end ((half y Ends).rd + j) (omega arith) (omega (arith, k))))

  hands-is : (a b : List ℕ) → Hands a ≡ Hands b → a ≡ b
  hands-is a b e = cc

  not-handed : (r : Reply) (b : List ℕ) → Plain r ≡ Hands b → ⊥
  not-handed r b e = cc

  pub read-stand : is_near_part (terms_of setup) (part payload (group_on s past) s past) ≡ true → (n : ℕ) (bytes : List ℕ) → told (terms_of setup) y (Reads n) Ends ≡ Hands bytes → Handed bytes
  read-stand near n bytes e = by-cause (cause_of (half y Ends).phase) refl e
    where
      by-flags : (c : Bool) → (if c then Plain End else Plain Empty) ≡ Hands bytes → Handed bytes
      by-flags true g = absurd (not-handed End bytes g)
      by-flags false g = absurd (not-handed Empty bytes g)

      by-parts : (a b c : Bool) → is_shut (half y Ends).phase ≡ a → (if a then Plain Ended else if b then Hands [] else if c then Hands (take (min n (unread (half y Ends))) (drop (half y Ends).rd (half (other y) Ends).out)) else if (half y Ends).taken.done || (half y Ends).taken.closed then Plain End else Plain Empty) ≡ Hands bytes → Handed bytes
      by-parts true b c q g = absurd (not-handed Ended bytes g)
      by-parts false true c q g = subst (λ bs. Handed bs) (hands-is [] bytes g) nothing-handed
      by-parts false false true q g = subst (λ bs. Handed bs) (hands-is (take (min n (unread (half y Ends))) (drop (half y Ends).rd (half (other y) Ends).out)) bytes g) (unread-handed near q n)
      by-parts false false false q g = by-flags ((half y Ends).taken.done || (half y Ends).taken.closed) g

      by-cause : (c : Option ResetCause) → cause_of (half y Ends).phase ≡ c → half_told (element_size setup) (Reads n) (half y Ends) (half (other y) Ends).out c ≡ Hands bytes → Handed bytes
      by-cause (Some cause) q g = absurd (not-handed (Reset cause) bytes g)
      by-cause None q g = by-parts (is_closing (half y Ends).phase) (n == 0) (nat_lt 0 (unread (half y Ends))) (ap (λ c. is_some c || is_closing (half y Ends).phase) q) g
