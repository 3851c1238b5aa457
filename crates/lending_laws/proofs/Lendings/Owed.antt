-- When the end of a lending is over, both ends of its connection have posted their last snapshot, each under its peer's token.
use Rattle.std.proofs.Common.{List, [], ap, append-nil, false, filter_map, inl, inr, refl, subst, sym, true, true≢false, ℕ, ◌++◌, ◌==◌, ◌||◌, ◌∙◌, ◌∷◌, ◌≡◌, ◌⊎◌}
use Rattle.std.specs.Prelude.{None, Option, Some, is_some, option_map, unwrap_or}
use Rattle.pipe_model.specs.Connections.{comes_up}
use Rattle.pipe_model.specs.Fabric.{after}
use Rattle.pipe_model.specs.Lawful.{asked}
use Rattle.std.specs.List.{list_any}
use Rattle.pipe_model.specs.Lending.{posts_last}
use Rattle.pipe_model.proofs.Pipes.{over-has-told}
use Rattle.history_laws.specs.Words.{A, B, EachOf, Entry, Item, Lending, LinkId, Offered, Post, Setup, Side, Terms, connection_posts, draft, fabric, group_on, half, has_last, is_over, is_up, items, lends, lends_by, new_offer, offered, other, part, pipe, pipe_of, posts_of, terms_of, told_last}
use Rattle.history_laws.specs.Made.{IsMadeAll, IsMade}
use Rattle.history_laws.proofs.Basics.{by-bool, none-is, or-left, or-true, some-is}
use Rattle.history_laws.proofs.Offers.{all-offers, kept, new-or-old, posts-are, states}
use Rattle.history_laws.specs.Offers.{NewLending}
use Rattle.history_laws.specs.Lists.{IsAmong}
use Rattle.history_laws.proofs.Items.{IsHonest, last-either, news-grow, pipe-is-up, posts-are-more, same-items, silent-after}
use Rattle.history_laws.proofs.Posts.{connections-data, unseen-after}
use Rattle.lending_laws.specs.Owed.{AllOwn, OwedAfter, OwedLendings, OwedWith}
use Rattle.lending_laws.proofs.Lendings.Groups.{new-fits}
use Rattle.lending_laws.proofs.Lendings.Told.{any-back, connections-last, in-offered}
use Rattle.lending_laws.specs.Lendings.{HaveToldLast}

-- what is owed after a history, out of all that is owed
pub owed-now : (setup : Setup) (payload : List ℕ) (past : List Entry) → OwedLendings setup payload past → OwedAfter setup payload past
owed-now setup payload [] o = o
owed-now setup payload (e ∷ past) o = o.0

-- an offer's packet sequence number is its group
pub all-psn : (setup : Setup) (payload : List ℕ) (past : List Entry) → IsMadeAll setup payload past → (x : Side) (s : ℕ) (o : Offered) → offered x s past ≡ Some o → o.offer.psn ≡ o.link.group
all-psn setup payload [] m x s o i = absurd (none-is o i)
all-psn setup payload (e ∷ past) m x s o i = let one = m.0 in by (all-psn setup payload past m.1 x s o) (new-or-old setup payload past one.0 e one.1 (states setup payload past m.1) (all-offers setup payload past m.1) x s)
  where
    by : (offered x s past ≡ Some o → o.offer.psn ≡ o.link.group) → (offered x s (e ∷ past) ≡ offered x s past) ⊎ ((n : NewLending setup payload x e past) × ((s ≡ n.s) × (offered x s (e ∷ past) ≡ Some (record { link = n.link; offer = new_offer setup payload x n.first n.link past })))) → o.offer.psn ≡ o.link.group
    by was (inl same) = was (sym same ∙ i)
    by was (inr q) =
        let n = q.0 in
        let r = q.1 in
        let new : Offered = record { link = n.link; offer = new_offer setup payload x n.first n.link past } in
        let is : o ≡ new = some-is o new (sym i ∙ r.1) in
        ap (λ (p : Offered). p.offer.psn) is ∙ sym (ap (λ (p : Offered). p.link.group) is)

-- and is not 0
pub grouped-own : (setup : Setup) (payload : List ℕ) (past : List Entry) → IsMadeAll setup payload past → AllOwn past → (s : ℕ) (o : Offered) → offered B s past ≡ Some o → (o.link.group == 0) ≡ false
grouped-own setup payload [] m w s o i = absurd (none-is o i)
grouped-own setup payload (e ∷ past) m w s o i =
    let one = m.0 in
    by one.0 one.1 (grouped-own setup payload past m.1 w.1) (new-or-old setup payload past one.0 e one.1 (states setup payload past m.1) (all-offers setup payload past m.1) B s)
  where
    by : (before : ℕ) → IsMade setup payload past before e → ((t : ℕ) (q : Offered) → offered B t past ≡ Some q → (q.link.group == 0) ≡ false)
        → (offered B s (e ∷ past) ≡ offered B s past) ⊎ ((n : NewLending setup payload B e past) × ((s ≡ n.s) × (offered B s (e ∷ past) ≡ Some (record { link = n.link; offer = new_offer setup payload B n.first n.link past })))) → (o.link.group == 0) ≡ false
    by before made was (inl same) = was s o (sym same ∙ i)
    by before made was (inr q) =
        let n = q.0 in
        let r = q.1 in
        let new : Offered = record { link = n.link; offer = new_offer setup payload B n.first n.link past } in
        let is : o ≡ new = some-is o new (sym i ∙ r.1) in
        let l : Lending = lends_by n.s n.link (new_offer setup payload B n.first n.link past) in
        let there : IsAmong l (filter_map (lends B) e.posts) = subst (λ ls. IsAmong l ls) (sym n.lends_one) (inl refl) in
        let fits = new-fits setup payload past before e made (states setup payload past m.1) (all-offers setup payload past m.1) w.0 (all-psn setup payload past m.1 B) was B l there in
        ap (λ (p : Offered). p.link.group == 0) is ∙ fits.1

owns : (setup : Setup) (payload : List ℕ) (past : List Entry) → OwedLendings setup payload past → AllOwn past
owns setup payload [] w = tt
owns setup payload (e ∷ past) w = let rest = w.1 in let now = owed-now setup payload past rest.1 in (now.own, owns setup payload past rest.1)

pub all-grouped : (setup : Setup) (payload : List ℕ) (past : List Entry) → IsMadeAll setup payload past → OwedLendings setup payload past → (s : ℕ) (o : Offered) → offered B s past ≡ Some o → (o.link.group == 0) ≡ false
all-grouped setup payload past m w = grouped-own setup payload past m (owns setup payload past w)

-- an end is up only where its peer has offered
pub up-offered : (setup : Setup) (payload : List ℕ) (past : List Entry) → IsMadeAll setup payload past → OwedLendings setup payload past → (y : Side) (s : ℕ) → is_up y s past ≡ true → (o : Offered) × (offered (other y) s past ≡ Some o)
up-offered setup payload [] m w y s u = absurd (true≢false (sym u))
up-offered setup payload (e ∷ past) m w y s u = let one = m.0 in let rest = w.1 in by one.0 one.1 rest.0 (up-offered setup payload past m.1 rest.1 y s) (comes_up y s e past) refl
  where
    stays : (before : ℕ) → IsMade setup payload past before e → (o : Offered) × (offered (other y) s past ≡ Some o) → (o : Offered) × (offered (other y) s (e ∷ past) ≡ Some o)
    stays before made q = (q.0, kept setup payload past before e made (states setup payload past m.1) (all-offers setup payload past m.1) (other y) s q.0 q.1)

    by : (before : ℕ) → IsMade setup payload past before e → OwedWith e past → (is_up y s past ≡ true → (o : Offered) × (offered (other y) s past ≡ Some o)) → (c : Option LinkId) → comes_up y s e past ≡ c → (o : Offered) × (offered (other y) s (e ∷ past) ≡ Some o)
    by before made with was None i = stays before made (was (sym (ap (λ c. is_some c || is_up y s past) i) ∙ u))
    by before made with was (Some link) i = stays before made (with.answers y s link i)

-- an end that is not up has sent nothing
pub quiet : (t : Terms) (x : Side) (payload : List ℕ) (group s : ℕ) (past : List Entry) → is_up x s past ≡ false → (half x (pipe t (part payload group s past))).sent ≡ []
quiet t x payload group s past u = at x (subst (λ is. (half x (pipe t is)).sent ≡ (half x (pipe t [])).sent) (append-nil (part payload group s past)) (silent-after t x (part payload group s past) [] (subst (λ is. (half x (pipe t is)).up ≡ false) (sym (append-nil (part payload group s past))) (pipe-is-up t x payload group s past ∙ u))))
  where
    at : (y : Side) → (half y (pipe t (part payload group s past))).sent ≡ (half y (pipe t [])).sent → (half y (pipe t (part payload group s past))).sent ≡ []
    at A e = e
    at B e = e

pub last-up : (t : Terms) (x : Side) (payload : List ℕ) (group s : ℕ) (past : List Entry) → has_last (half x (pipe t (part payload group s past))).sent ≡ true → is_up x s past ≡ true
last-up t x payload group s past e = by-bool (is_up x s past ≡ true) (is_up x s past) (λ u. u) (λ u. absurd (true≢false (sym e ∙ ap has_last (quiet t x payload group s past u))))

-- the draft of an entry gives the same items
draft-items : (setup : Setup) (payload : List ℕ) (past : List Entry) (before : ℕ) (e : Entry) → IsMade setup payload past before e → (group s : ℕ) → items payload group s (draft setup payload past before e.event) past ≡ items payload group s e past
draft-items setup payload past before e made group s =
    let more : List Post = connection_posts setup payload (draft setup payload past before e.event) past in
    same-items payload group s (draft setup payload past before e.event) e past refl (sym made.reply)
    (ap (λ r. after e.event r (asked setup payload past e.event r) past (fabric past)) (sym made.reply)
    ∙ (sym (unseen-after e.event e.reply (asked setup payload past e.event e.reply) more past (fabric past) (connections-data setup payload (draft setup payload past before e.event) past))
    ∙ ap (λ ps. after e.event e.reply ps past (fabric past)) (sym (posts-are setup payload past before e made))))

-- an end that has sent a last snapshot has posted it under its peer's token
abbrev HasTold : Side → ℕ → List Entry → Type 0
HasTold y s past = (o : Offered) × ((offered (other y) s past ≡ Some o) × (told_last y o.offer.token past ≡ true))

module _ (setup : Setup) (payload : List ℕ) (e : Entry) (past : List Entry) (m : IsMadeAll setup payload (e ∷ past)) (w : OwedLendings setup payload (e ∷ past)) (y : Side) (s : ℕ) where
  abbrev one : (before : ℕ) × IsMade setup payload past before e
  one = m.0

  abbrev t : Terms
  t = terms_of setup

  keeps : (x : Side) (o : Offered) → offered x s past ≡ Some o → offered x s (e ∷ past) ≡ Some o
  keeps x o i = kept setup payload past one.0 e one.1 (states setup payload past m.1) (all-offers setup payload past m.1) x s o i

  -- the peer of an end that is up afterwards had offered before
  had-offered : is_up y s (e ∷ past) ≡ true → (o : Offered) × (offered (other y) s past ≡ Some o)
  had-offered u = by (comes_up y s e past) refl
    where
      by : (c : Option LinkId) → comes_up y s e past ≡ c → (o : Offered) × (offered (other y) s past ≡ Some o)
      by None i = (let rest = w.1 in up-offered setup payload past m.1 rest.1 y s (sym (ap (λ c. is_some c || is_up y s past) i) ∙ u))
      by (Some link) i = (let rest = w.1 in let with = rest.0 in with.answers y s link i)

  -- so had B
  b-offered : (x : Side) (o : Offered) → offered x s past ≡ Some o → (r : Offered) × (offered B s past ≡ Some r)
  b-offered B o i = (o, i)
  b-offered A o i = at (offered B s past) refl
    where
      at : (q : Option Offered) → offered B s past ≡ q → (r : Offered) × (offered B s past ≡ Some r)
      at None j = absurd (none-is o (sym (let h = all-offers setup payload past m.1 s in h.answer j) ∙ i))
      at (Some r) j = (r, j)

  group-is : (r : Offered) → offered B s past ≡ Some r → group_on s (e ∷ past) ≡ group_on s past
  group-is r j = ap (λ q. unwrap_or (option_map (λ (l : LinkId). l.group) (option_map (λ (p : Offered). p.link) q)) 0) (keeps B r j) ∙ sym (ap (λ q. unwrap_or (option_map (λ (l : LinkId). l.group) (option_map (λ (p : Offered). p.link) q)) 0) j)

  abbrev is_old : Type 0
  is_old = has_last (half y (pipe t (part payload (group_on s past) s past))).sent ≡ true

  abbrev is_new : Type 0
  is_new = has_last (half y (pipe t (part payload (group_on s past) s past))).sent ≡ false

  abbrev news : List Item
  news = items payload (group_on s past) s e past

  told-step : (has_last (half y (pipe t (part payload (group_on s past) s past))).sent ≡ true → HasTold y s past) → has_last (half y (pipe t (part payload (group_on s (e ∷ past)) s (e ∷ past)))).sent ≡ true → HasTold y s (e ∷ past)
  told-step was last =
      let u : is_up y s (e ∷ past) ≡ true = last-up t y payload (group_on s (e ∷ past)) s (e ∷ past) last in
      let p = had-offered u in
      let b = b-offered (other y) p.0 p.1 in
      let g : group_on s (e ∷ past) ≡ group_on s past = group-is b.0 b.1 in
      at p.0 p.1 b.0 b.1 (ap (λ n. has_last (half y (pipe t (part payload n s (e ∷ past)))).sent) (sym g) ∙ last) (by-bool (is_old ⊎ is_new) (has_last (half y (pipe t (part payload (group_on s past) s past))).sent) inl inr)
    where
      at : (o : Offered) → offered (other y) s past ≡ Some o → (r : Offered) → offered B s past ≡ Some r → has_last (half y (pipe t (news ++ part payload (group_on s past) s past))).sent ≡ true → is_old ⊎ is_new → HasTold y s (e ∷ past)
      at o i r j now (inl l) = let q = was l in let k = q.1 in (q.0, (keeps (other y) q.0 k.0, or-true (list_any (posts_last y q.0.offer.token) e.posts) (told_last y q.0.offer.token past) k.1))
      at o i r j now (inr l) =
          let grow = news-grow t y news (part payload (group_on s past) s past) in
          let more : has_last grow.more ≡ true = last-either (half y (pipe t (part payload (group_on s past) s past))).sent grow.more (ap has_last (sym grow.sent_is) ∙ now) l in
          let d : Entry = draft setup payload past one.0 e.event in
          let sent_are : posts_of t y (items payload (group_on s past) s d past) (part payload (group_on s past) s past) ≡ grow.more = ap (λ (is : List Item). posts_of t y is (part payload (group_on s past) s past)) (draft-items setup payload past one.0 e one.1 (group_on s past) s) ∙ posts-are-more t y news (part payload (group_on s past) s past) grow in
          let rest = w.1 in
          let now_owed = owed-now setup payload past rest.1 in
          let group : (group_on s past == 0) ≡ false = ap (λ q. unwrap_or (option_map (λ (k : LinkId). k.group) (option_map (λ (p : Offered). p.link) q)) 0 == 0) j ∙ all-grouped setup payload past m.1 rest.1 s r j in
          let there : list_any (posts_last y o.offer.token) (connection_posts setup payload d past) ≡ true = connections-last setup payload y s o d past i (in-offered setup past s (now_owed.known B s r j) group)
          (subst (λ ms. EachOf IsHonest ms) (sym sent_are) grow.honest) (ap has_last sent_are ∙ more) in (
            o,
            (
              keeps (other y) o i,
              or-left (list_any (posts_last y o.offer.token) e.posts) (told_last y o.offer.token past)
                  (ap (λ ps. list_any (posts_last y o.offer.token) ps) (posts-are setup payload past one.0 e one.1) ∙ any-back (posts_last y o.offer.token) (asked setup payload past e.event e.reply) (connection_posts setup payload d past) there),
            ),
          )

-- after each history
pub has-told : (setup : Setup) (payload : List ℕ) (past : List Entry) → IsMadeAll setup payload past → OwedLendings setup payload past → (y : Side) (s : ℕ) → has_last (half y (pipe (terms_of setup) (part payload (group_on s past) s past))).sent ≡ true → HasTold y s past
has-told setup payload [] m w y s last = absurd (true≢false (sym (last-up (terms_of setup) y payload (group_on s []) s [] last)))
has-told setup payload (e ∷ past) m w y s last = let rest = w.1 in told-step setup payload e past m w y s (has-told setup payload past m.1 rest.1 y s) last

-- an end that is over
pub over-told : (setup : Setup) (payload : List ℕ) (past : List Entry) → IsMadeAll setup payload past → OwedLendings setup payload past → (x : Side) (s : ℕ) → is_over (half x (pipe_of setup payload (group_on s past) s past)) ≡ true → HaveToldLast s past
over-told setup payload past m w x s over =
    let now = owed-now setup payload past w in
    let both = over-has-told (terms_of setup) x (part payload (group_on s past) s past) (now.feasible s) over in
    by x (has-told setup payload past m w x s both.0) (has-told setup payload past m w (other x) s both.1)
  where
    by : (z : Side) → HasTold z s past → HasTold (other z) s past → HaveToldLast s past
    by A a b A = a
    by A a b B = b
    by B a b A = b
    by B a b B = a
