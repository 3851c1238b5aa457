-- Once a lending has ended while its group stands, no link that the peer has not lost carries bytes of its connection.
use Rattle.std.proofs.Common.{Bool, List, [], ap, drop, eq-eqb, eqb-true, false, if◌then◌else◌, inl, inr, nat_le, refl, subst, suc, sym, true, true≢false, zero, ℕ, ◌%◌, ◌++◌, ◌+◌, ◌-◌, ◌==◌, ◌∙◌, ◌∷◌, ◌≡◌, ◌⊎◌}
use Rattle.pipe_model.specs.Parts.{CarriesNone}
use Rattle.pipe_model.specs.declared.sent.Sent.{Sent}
use Rattle.pipe_model.specs.Ends.{fresh}
use Rattle.pipe_model.proofs.Pipes.{and-parts, ends-with-last}
use Rattle.std.specs.Prelude.{None, Some, find, map}
use Rattle.pipe_model.specs.declared.post.Post.TheVariants.{Write}
use Rattle.smc_num.specs.Places.{address_of}
use Rattle.history_laws.specs.Words.{A, B, Cdc, EachOf, Entry, Half, IsFeasible, Lending, LinkId, Offer, Offered, Place, Post, Setup, Side, cdc_posts, element_size, end_state, group_on, half, has_ended, is_last, is_out, is_over, is_up, lendings, lends_by, lent, offered, offered_place, other, part, pipe_of, record_of, same_link, spelled, terms_of, to_land, unlanded, validation, writes}
use Rattle.history_laws.specs.Wires.{IsCarried, cdcs, here, message}
use Rattle.history_laws.specs.Made.{IsMadeAll}
use Rattle.history_laws.proofs.Basics.{by-bool}
use Rattle.history_laws.proofs.Offers.{state-up}
use Rattle.history_laws.specs.Lists.{IsAmong}
use Rattle.link_laws.specs.Lasting.{is_lost}
use Rattle.lending_laws.specs.Owed.{OwedLendings}
use Rattle.lending_laws.specs.Lendings.{AsOut, AsOver, HasReturned, WithGroup}
use Rattle.lending_laws.proofs.Lendings.Owed.{owed-now, quiet}
use Rattle.lending_laws.proofs.Lendings.Returns.{lending-group}
use Rattle.lending_laws.proofs.Lendings.Lendings.{all-lendings, lent-was}
use Rattle.lending_laws.proofs.Lendings.Done.{all-returned, out-ended}
use Rattle.lending_laws.specs.Reuse.{AreCarriedOn, CarriesNoBytes}

drop-none : (n : ℕ) → EachOf CarriesNone (drop n [])
drop-none zero = tt
drop-none (suc n) = tt

-- an end that has sent nothing has nothing under way
none-under-way : (h : Half) → h.sent ≡ [] → EachOf CarriesNone (to_land h)
none-under-way h e = subst (λ ms. EachOf CarriesNone ms) (sym (ap (λ (ms : List Sent). drop h.landed ms) e)) (drop-none h.landed)

here-none : (link : LinkId) (h : Half) → EachOf CarriesNone (to_land h) → EachOf CarriesNone (to_land (here link h))
here-none link h a = by (same_link link h.link)
  where
    by : (b : Bool) → EachOf CarriesNone (to_land (if b then h else fresh 0))
    by true = a
    by false = tt

module _ (setup : Setup) (payload : List ℕ) (past : List Entry) (m : IsMadeAll setup payload past) (w : OwedLendings setup payload past) where
  -- an end that is out is not up
  out-down : (x : Side) (s : ℕ) → is_out (end_state x s past) ≡ true → is_up x s past ≡ false
  out-down x s o = by-bool (is_up x s past ≡ false) (is_up x s past) (λ u. absurd (true≢false (sym o ∙ ap is_out (state-up x s past u)))) (λ u. u)

  -- what the peer of a lending that has ended has under way carries no bytes
  pub peer-quiet : (y : Side) (l : Lending) → IsAmong l (lendings y past) → HasReturned setup payload y l past → has_ended y l.group past ≡ false → EachOf CarriesNone (to_land (half (other y) (pipe_of setup payload (group_on l.s past) l.s past)))
  peer-quiet y l i (WithGroup g) n = absurd (true≢false (sym g ∙ n))
  peer-quiet y l i (AsOver v) n =
      let now = owed-now setup payload past w in
      let over : is_over (half y (pipe_of setup payload (group_on l.s past) l.s past)) ≡ true = ap (λ g. is_over (half y (pipe_of setup payload g l.s past))) (sym (lending-group setup payload past m y l i)) ∙ v in
      let both = and-parts (is_last (half y (pipe_of setup payload (group_on l.s past) l.s past)).fin) (is_last (half y (pipe_of setup payload (group_on l.s past) l.s past)).taken) over in
      at y (now.feasible l.s) both.1
    where
      at : (z : Side) → IsFeasible (terms_of setup) (part payload (group_on l.s past) l.s past) → is_last (half z (pipe_of setup payload (group_on l.s past) l.s past)).taken ≡ true → EachOf CarriesNone (to_land (half (other z) (pipe_of setup payload (group_on l.s past) l.s past)))
      at A f t = ends-with-last (terms_of setup) B (part payload (group_on l.s past) l.s past) f t
      at B f t = ends-with-last (terms_of setup) A (part payload (group_on l.s past) l.s past) f t
  peer-quiet y l i (AsOut o) n = by y i n o
    where
      by : (z : Side) → IsAmong l (lendings z past) → has_ended z l.group past ≡ false → is_out (end_state z l.s past) ≡ true → EachOf CarriesNone (to_land (half (other z) (pipe_of setup payload (group_on l.s past) l.s past)))
      by A j k p =
          let are = all-lendings setup payload past m A in
          let q = are.of_offer l j in
          let r = q.1 in
          absurd (true≢false (sym (ap (λ (c : Lending). has_ended A c.group past) r.1 ∙ out-ended setup payload past m w l.s q.0 r.0 p) ∙ k))
      by B j k p =
          let are = all-lendings setup payload past m B in
          let q = are.of_offer l j in
          let r = q.1 in
          let now = owed-now setup payload past w in
          at q.0 r.1 (now.fallen l.s q.0 r.0 p)
        where
          at : (o : Offered) → l ≡ lends_by l.s o.link o.offer → (is_out (end_state A l.s past) ≡ true) ⊎ (has_ended B o.link.group past ≡ true) → EachOf CarriesNone (to_land (half A (pipe_of setup payload (group_on l.s past) l.s past)))
          at o is (inl a) = none-under-way (half A (pipe_of setup payload (group_on l.s past) l.s past)) (quiet (terms_of setup) A payload (group_on l.s past) l.s past (out-down A l.s a))
          at o is (inr g) = absurd (true≢false (sym (ap (λ (c : Lending). has_ended B c.group past) is ∙ g) ∙ k))

  -- no bytes come after a lending
  pub no-bytes : AreCarriedOn setup payload past → (y : Side) (l : Lending) → IsAmong l (lendings y past) → (IsAmong l (lent setup payload y past) → ⊥) → has_ended y l.group past ≡ false
      → (link : LinkId) → is_lost (other y) link past ≡ false → CarriesNoBytes (element_size setup) link (other y) l past
  no-bytes carried y l i gone stands link kept =
      let are = all-lendings setup payload past m y in
      let q = are.of_offer l i in
      let r = q.1 in
      let h : Half = half (other y) (pipe_of setup payload (group_on l.s past) l.s past) in
      let c : IsCarried (element_size setup) link (other y) q.0.offer.token past (here link h) = carried (other y) l.s q.0 (turned y q.0 r.0) link kept in
      record {
        messages = to_land (here link h);
        on_wire = ap (λ (k : Lending). cdcs (other y) k.token (unlanded link (other y) past)) r.1 ∙ (c.landing ∙ ap (λ (k : Lending). map (message (element_size setup) k.token) (to_land (here link h))) (sym r.1));
        none = here-none link h (by (all-returned setup payload past m w y l i));
      }
    where
      turned : (z : Side) (o : Offered) → offered z l.s past ≡ Some o → offered (other (other z)) l.s past ≡ Some o
      turned A o j = j
      turned B o j = j

      by : IsAmong l (lent setup payload y past) ⊎ HasReturned setup payload y l past → EachOf CarriesNone (to_land (half (other y) (pipe_of setup payload (group_on l.s past) l.s past)))
      by (inl j) = absurd (gone j)
      by (inr k) = peer-quiet y l i k stands

-- a token names the record of its lending, as long as that is lent, and nothing afterwards
found-one : (ls : List Lending) (l : Lending) → IsAmong l ls → ((k : Lending) → IsAmong k ls → k.token ≡ l.token → k ≡ l) → find (λ k. k.token == l.token) ls ≡ Some l
found-one [] l i f = absurd i
found-one (k ∷ ls) l i f = by (k.token == l.token) refl i (λ j. found-one ls l j (λ n q e. f n (inr q) e))
  where
    by : (b : Bool) → (k.token == l.token) ≡ b → IsAmong l (k ∷ ls) → (IsAmong l ls → find (λ n. n.token == l.token) ls ≡ Some l) → (if b then Some k else find (λ n. n.token == l.token) ls) ≡ Some l
    by true e j rest = ap (λ (n : Lending). Some n) (f k (inl refl) (eqb-true k.token l.token e))
    by false e (inl q) rest = absurd (true≢false (sym (eq-eqb k.token l.token (ap (λ (n : Lending). n.token) (sym q))) ∙ e))
    by false e (inr j) rest = rest j

pub names-record : (setup : Setup) (payload : List ℕ) (past : List Entry) → IsMadeAll setup payload past → (y : Side) (l : Lending) → IsAmong l (lent setup payload y past) → record_of setup payload y l.token past ≡ Some l
names-record setup payload past m y l i = let are = all-lendings setup payload past m y in
    found-one (lent setup payload y past) l i (λ k j e. are.by_token k l (lent-was setup payload y past k j) (lent-was setup payload y past l i) e)

pub dropped-not-lent : (setup : Setup) (payload : List ℕ) (past : List Entry) → IsMadeAll setup payload past → (y : Side) (l : Lending) → record_of setup payload y l.token past ≡ None → IsAmong l (lent setup payload y past) → ⊥
dropped-not-lent setup payload past m y l none i = wrong (sym none ∙ names-record setup payload past m y l i)
  where
    wrong : None ≡ Some l → ⊥
    wrong e = cc

-- a message without bytes is posted alone, without a write before it
none-if : (b : Bool) (ps : List Post) → b ≡ true → (if b then [] else ps) ≡ []
none-if true ps e = refl
none-if false ps e = absurd (true≢false (sym e))

writes-none : (size : ℕ) (x : Side) (link : LinkId) (key : ℕ) (place : Place) (from to : ℕ) → from ≡ to → writes size x link key place from to ≡ []
writes-none size x link key place from to e = none-if (from == to)
    (if nat_le (from % size + (to - from)) size then Write x link key (address_of size place from) (to - from) ∷ [] else
    Write x link key (address_of size place from) (size - from % size) ∷ Write x link key (address_of size place 0) (to - from - (size - from % size)) ∷ []) (eq-eqb from to e)

pub no-writes : (size : ℕ) (x : Side) (key : ℕ) (o : Offer) (m : Sent) → CarriesNone m → cdc_posts size x key o m ≡ Cdc x m.link (message size o.token m) ∷ []
no-writes size x key o m none = by m.check
  where
    by : (b : Bool) → (if b then Cdc x m.link (validation size o.token m.snapshot) ∷ [] else writes size x m.link key (offered_place o) m.from m.snapshot.told ++ Cdc x m.link (spelled size o.token m.snapshot) ∷ [])
        ≡ Cdc x m.link (if b then validation size o.token m.snapshot else spelled size o.token m.snapshot) ∷ []
    by true = refl
    by false = ap (λ (ps : List Post). ps ++ Cdc x m.link (spelled size o.token m.snapshot) ∷ []) (writes-none size x m.link key (offered_place o) m.from m.snapshot.told none)
