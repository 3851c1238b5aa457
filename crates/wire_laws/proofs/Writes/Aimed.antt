-- Each write that waits on a link which its side has not lost is one of an end that is up and on that link: behind it stand the message for what it writes and those for all that the end has sent later.
use Rattle.std.proofs.Common.{List, [], ap, append_assoc, arith, drop, false, filter, filter_map, inl, inr, length, map, refl, slice_get, subst, suc, sym, true, true≢false, ℕ, ◌%◌, ◌&&◌, ◌++◌, ◌+◌, ◌-◌, ◌∙◌, ◌∷◌, ◌≡◌, ◌≤◌, ◌⊎◌}
use Rattle.std.specs.Prelude.{Some, is_some, option_and_then, option_map, unwrap_or}
use Rattle.std.proofs.lemmas.List.{map-append}
use Rattle.std.proofs.lemmas.Nat.{pow_pos}
use Rattle.std.proofs.Math.Seq.{drop-append_seam}
use Rattle.smc_num.specs.Places.{address_of, element_start}
use Rattle.pipe_model.specs.Calls.{Moves}
use Rattle.pipe_model.specs.History.{entry_at}
use Rattle.pipe_model.specs.Keys.{last_bound}
use Rattle.pipe_model.specs.Home.{cdc_in, following_cdc}
use Rattle.pipe_model.specs.Parts.{CarriesFew}
use Rattle.pipe_model.specs.declared.post.Post.TheVariants.{Clc, Write}
use Rattle.pipe_model.specs.declared.sent.Sent.{Sent}
use Rattle.pipe_model.proofs.Pipes.{carries-few}
use Rattle.history_laws.specs.Words.{Calls, Cdc, EachOf, Entry, Half, IsFeasible, Item, LinkId, Llc, Offered, Placed, Post, PostRef, Setup, Side, Terms, connection_posts, deeds, draft, element_size, group_on, half, head, is_due_for_move, is_on, next_number, numbered, offered, offered_place, other, part, passes, pipe, pipe_of, rmb_at, same_link, same_side, step, terms_of, unlanded, items}
use Rattle.history_laws.specs.Made.{IsMade, IsMadeAll}
use Rattle.history_laws.specs.Posts.{EachPost}
use Rattle.history_laws.specs.Wires.{cdcs, leaving, message}
use Rattle.history_laws.proofs.Basics.{and-both, by-bool, cdcs-append, each-drop, link-is, or-right, same-is, same-link}
use Rattle.history_laws.proofs.Items.{Deed, MoveDeed, MovesOff, NoDeed, Sends, Shape, below, deed-stays, moves-step}
use Rattle.history_laws.proofs.Posts.{IsControl, all-control, given}
use Rattle.link_laws.specs.Lasting.{is_lost}
use Rattle.lending_laws.specs.Ends.{AllPlain, OffersGoOn}
use Rattle.wire_laws.specs.Agreement.{Agrees, AllOwed, OwedToAgreement}
use Rattle.wire_laws.specs.Memory.{behind, carried}
use Rattle.wire_laws.proofs.Agreement.{Holds, Mid, Now, Then, all-on, b-offered, deed-shape, draft-items, feasible-step, holds, news-own, none-sends, now-owed, offered-now, one-sends, own-posted, same-group, then-one, tokens-else, under}
use Rattle.wire_laws.proofs.Writes.Batches.{CarriesOn, EachBefore, IsNewWrite, NewWrite, Tells, before-append, pipes-tell}
use Rattle.wire_laws.proofs.Writes.NewWrites.{EachBehind, IsPosted, behind-drop, behind-more, new-behind}

-- what an end has sent on a link, on which it still is
pub record IsSentBy (link : LinkId) (h : Half) (m : Sent) (later : List Sent) : Type 0 where
  pub earlier : List Sent
  pub sent_is : h.sent ≡ earlier ++ m ∷ later
  pub up : h.up ≡ true
  pub on : h.link ≡ link

-- that a write is one of what an end of a socket has sent, into the element that its peer has offered there
pub record IsAimed (setup : Setup) (payload : List ℕ) (x : Side) (link : LinkId) (past : List Entry) (at : PostRef) (address len : ℕ) (rest : List Placed) (s : ℕ) (o : Offered) : Type 0 where
  pub within : at.entry ≤ length past
  pub offered_is : offered (other x) s past ≡ Some o
  pub sent : Sent
  pub later : List Sent
  pub by : IsSentBy link (half x (pipe_of setup payload (group_on s past) s past)) sent later
  pub some : sent.from ≡ sent.snapshot.told → ⊥
  pub from_start : element_start (element_size setup) (offered_place o.offer) ≤ address
  pub to_end : address + len ≤ element_start (element_size setup) (offered_place o.offer) + element_size setup
  -- from which count of the stream on it carries bytes, and where those go
  pub count : ℕ
  pub address_is : address ≡ address_of (element_size setup) (offered_place o.offer) count
  pub in_one : count % element_size setup + len ≤ element_size setup
  pub not_before : sent.from ≤ count
  pub up_to : (count + len) + carried (behind at past) ≡ sent.snapshot.told
  pub following : following_cdc at past ≡ Some (message (element_size setup) o.offer.token sent)
  pub waiting : cdcs x o.offer.token rest ≡ message (element_size setup) o.offer.token sent ∷ map (message (element_size setup) o.offer.token) later

abbrev pub AimsAt : Setup → List ℕ → Side → LinkId → List Entry → PostRef → Post → List Placed → Type 0
AimsAt setup payload x link past at (Write from l key address len) rest = (s : ℕ) × ((o : Offered) × IsAimed setup payload x link past at address len rest s o)
AimsAt setup payload x link past at _ rest = Unit {0}

abbrev pub Aims : Setup → List ℕ → Side → LinkId → List Entry → Placed → List Placed → Type 0
Aims setup payload x link past c rest = AimsAt setup payload x link past c.at c.post rest

-- lists
each-more : (P Q : Sent → Type 0) → ((m : Sent) → P m → Q m) → (ms : List Sent) → EachOf P ms → EachOf Q ms
each-more P Q f [] a = tt
each-more P Q f (m ∷ ms) a = (f m a.0, each-more P Q f ms a.1)

pub each-split : (P : Sent → Type 0) (ms : List Sent) (m : Sent) (rest : List Sent) → EachOf P (ms ++ m ∷ rest) → P m × EachOf P rest
each-split P [] m rest a = a
each-split P (k ∷ ms) m rest a = each-split P ms m rest a.1

not-none : (ms : List Sent) (m : Sent) (rest : List Sent) → ms ++ m ∷ rest ≡ [] → ⊥
not-none [] m rest e = true≢false (ap (λ ns. is_some (head ns)) e)
not-none (k ∷ ms) m rest e = true≢false (ap (λ ns. is_some (head ns)) e)

-- an entry stays where it is
entry-stays : (e : Entry) (past : List Entry) (n : ℕ) → n ≤ length past → entry_at n (e ∷ past) ≡ entry_at n past
entry-stays e past n le = get-suc e past (length past - n) (length (e ∷ past) - n) (omega (arith, le))
  where
    get-suc : (x : Entry) (xs : List Entry) (i j : ℕ) → j ≡ suc i → slice_get (x ∷ xs) j ≡ slice_get xs i
    get-suc x xs i j q = ap (λ k. slice_get (x ∷ xs) k) q

pub behind-stays : (e : Entry) (past : List Entry) (at : PostRef) → at.entry ≤ length past → behind at (e ∷ past) ≡ behind at past
behind-stays e past at le = ap (λ q. unwrap_or (option_map (λ (f : Entry). drop at.post f.posts) q) []) (entry-stays e past at.entry le)

-- what an end has sent with an entry, on its link
pub record IsNews (h k : Half) (more : List Sent) : Type 0 where
  pub sent_is : k.sent ≡ h.sent ++ more
  pub on : EachOf (λ m. m.link ≡ k.link) more
  pub none : k.up ≡ false → more ≡ []

module _ (setup : Setup) (payload : List ℕ) (e : Entry) (past : List Entry) (before : ℕ) (made : IsMade setup payload past before e) (owed : OwedToAgreement setup payload past) (beside : OffersGoOn e past) (all : AllOwed setup payload past) (agree : Agrees setup payload past) where
  abbrev T : Terms
  T = terms_of setup

  abbrev Size : ℕ
  Size = element_size setup

  abbrev pub D : Entry
  D = draft setup payload past before e.event

  abbrev P : ℕ → List Item
  P s = part payload (group_on s past) s past

  abbrev H : Side → ℕ → Half
  H x s = Now setup payload e past before made owed beside x s

  abbrev K : Side → ℕ → Half
  K x s = Then setup payload e past before made owed beside x s

  abbrev M : Side → ℕ → Half
  M x s = Mid setup payload e past before made owed beside x s

  abbrev Ds : ℕ → List Item
  Ds s = deeds payload s e.event e.reply past

  -- an end sends on its link, or moves off where it is due
  abbrev pub Turns : Side → ℕ → Type 0
  Turns x s = Sends (H x s) (K x s) ⊎ ((is_due_for_move (H x s) ≡ true) × MovesOff (H x s) (K x s))

  pub turns : (x : Side) (s : ℕ) → Turns x s
  turns x s = by (deed-shape setup payload e past before made owed beside agree s)
    where
      moved : Ds s ≡ Calls x Moves ∷ [] → ((group : ℕ) → below group s e past ≡ []) → is_due_for_move (M x s) ≡ true → Turns x s
      moved d none due =
          let same : M x s ≡ H x s = ap (λ is. half x (pipe T (is ++ P s))) (none (group_on s past)) in
          let q = moves-step T x (pipe T (below (group_on s past) s e past ++ P s)) due in
          inr (
            ap (λ h. is_due_for_move h) (sym same) ∙ due,
            subst (λ k. MovesOff (H x s) k) (sym (then-one setup payload e past before made owed beside x s (Calls x Moves) d))
                (subst (λ h. MovesOff h (half x (step T (Calls x Moves) (pipe T (below (group_on s past) s e past ++ P s))))) same q),
          )

      by : Shape s e past (Ds s) → Turns x s
      by (NoDeed d) = inl (none-sends setup payload e past before made owed beside x s d)
      by (Deed item d is) = inl (one-sends setup payload e past before made owed beside x s item d (deed-stays x item (M x s) is))
      by (MoveDeed y d none) = by-bool _ (same_side x y)
          (λ c. by-bool _ (is_due_for_move (M x s))
          (λ due. moved (d ∙ ap (λ z. Calls z Moves ∷ []) (sym (same-is x y c))) none due)
          (λ due. inl (one-sends setup payload e past before made owed beside x s (Calls y Moves) d (λ q. due))))
          (λ c. inl (one-sends setup payload e past before made owed beside x s (Calls y Moves) d (λ q. absurd (true≢false (sym q ∙ c)))))

  -- one whose link is not lost sends on it
  pub stays-there : (x : Side) (s : ℕ) → is_lost x (H x s).link past ≡ false → Sends (H x s) (K x s)
  stays-there x s kept = by (turns x s)
    where
      by : Turns x s → Sends (H x s) (K x s)
      by (inl p) = p
      by (inr q) = absurd (true≢false (sym (owed.left x s q.0) ∙ kept))

  -- what the pipes give an end to post is what it sends
  given-is : (x : Side) (s : ℕ) → given setup payload D past x s ≡ drop (length (H x s).sent) (K x s).sent
  given-is x s = ap (λ is. drop (length (H x s).sent) (half x (pipe T (is ++ P s))).sent) (draft-items setup payload e past before made owed beside (group_on s past) s)

  pub news-of : (x : Side) (s : ℕ) → IsNews (H x s) (K x s) (given setup payload D past x s)
  news-of x s = by (turns x s)
    where
      is : (more : List Sent) → (K x s).sent ≡ (H x s).sent ++ more → more ≡ given setup payload D past x s
      is more q = sym (given-is x s ∙ (ap (λ ms. drop (length (H x s).sent) ms) q ∙ drop-append_seam (H x s).sent more))

      by : Turns x s → IsNews (H x s) (K x s) (given setup payload D past x s)
      by (inl p) = subst (λ ms. IsNews (H x s) (K x s) ms) (is p.more p.sent_is) (record { sent_is = p.sent_is; on = p.on; none = p.none })
      by (inr q) = let p = q.1 in subst (λ ms. IsNews (H x s) (K x s) ms) (is p.more p.sent_is) (record { sent_is = p.sent_is; on = p.on; none = λ u. absurd (true≢false (sym p.up ∙ u)) })

  pub few : (x : Side) (s : ℕ) → EachOf (CarriesOn Size) (given setup payload D past x s)
  few x s =
      let f : IsFeasible T (items payload (group_on s past) s e past ++ P s) = feasible-step setup payload e past before made owed beside agree s in
      subst (λ ms. EachOf (CarriesOn Size) ms) (sym (given-is x s))
      (each-drop (CarriesOn Size) (length (H x s).sent) (K x s).sent
      (each-more (CarriesFew Size (length (K x s).out)) (CarriesOn Size) (λ m c. (c.few, c.forward)) (K x s).sent (carries-few T x (items payload (group_on s past) s e past ++ P s) f)))

  -- what the entry posts
  abbrev pub R : Post → List Post → Type 0
  R = IsNewWrite setup payload D past

  control-tells : (tail ps : List Post) → EachPost IsControl ps → EachBefore R tail ps
  control-tells tail [] c = tt
  control-tells tail (Write from link key address len ∷ ps) c = absurd c.0
  control-tells tail (Cdc from link m ∷ ps) c = absurd c.0
  control-tells tail (Llc from link m ∷ ps) c = (tt, control-tells tail ps c.1)
  control-tells tail (Clc from s link m ∷ ps) c = (tt, control-tells tail ps c.1)

  posts-tell : EachBefore R [] e.posts
  posts-tell = subst (λ ps. EachBefore R [] ps) (sym made.posts) (before-append R D.posts (connection_posts setup payload D past) []
      (control-tells (connection_posts setup payload D past ++ []) D.posts (all-control setup payload past e.event D.reply))
      (pipes-tell setup payload D past (pow_pos (setup.size_code + 14)) few
      (λ x s o f link. own-posted link setup payload D past x s o f (tokens-else setup payload e past before made owed beside (other x) s o f) (owed.known (other x) s o f) (offered-now setup payload e past before made owed beside (other x) s o f))))

  abbrev pub News : LinkId → Side → List Placed
  News link x = filter (λ c. is_on link x c.post) (numbered (next_number past) 1 e.posts)

  pub all-posted : (link : LinkId) (x : Side) → EachBehind (IsPosted R link x e past) (News link x)
  all-posted link x = new-behind R link x e past [] e.posts 1 refl (omega arith) posts-tell

  -- the end in the group of its socket afterwards
  pub then-is : (y : Side) (s : ℕ) (o : Offered) → offered y s past ≡ Some o → group_on s (e ∷ past) ≡ group_on s past
  then-is y s o f = let b = b-offered setup payload e past before made owed beside y s o f in same-group setup payload e past before made owed beside all agree s b.0 b.1

  -- a write that waits goes on doing so
  pub aim-stays-at : (x : Side) (link : LinkId) → is_lost x link past ≡ false → (at : PostRef) (address len : ℕ) (rest : List Placed) (s : ℕ) (o : Offered)
      → (a : IsAimed setup payload x link past at address len rest s o) → (b : IsAimed setup payload x link (e ∷ past) at address len (rest ++ News link x) s o) × (b.count ≡ a.count)
  aim-stays-at x link kept at address len rest s o a =
      let h : IsSentBy link (H x s) a.sent a.later = a.by in
      let p : Sends (H x s) (K x s) = stays-there x s (ap (λ l. is_lost x l past) h.on ∙ kept) in
      let on : (K x s).link ≡ link = p.same h.up ∙ h.on in
      let there : same_link link (K x s).link ≡ true = ap (λ l. same_link link l) on ∙ same-link link in
      let by : IsSentBy link (K x s) a.sent (a.later ++ p.more) = record { earlier = h.earlier; sent_is = p.sent_is ∙ (ap (λ ms. ms ++ p.more) h.sent_is ∙ append_assoc h.earlier (a.sent ∷ a.later) p.more); up = p.up h.up; on = on } in (
        record {
          within = omega (arith, a.within);
          offered_is = beside.kept (other x) s o a.offered_is;
          sent = a.sent;
          later = a.later ++ p.more;
          by = subst (λ g. IsSentBy link (half x (pipe_of setup payload g s (e ∷ past))) a.sent (a.later ++ p.more)) (sym (then-is (other x) s o a.offered_is)) by;
          some = a.some;
          from_start = a.from_start;
          to_end = a.to_end;
          count = a.count;
          address_is = a.address_is;
          in_one = a.in_one;
          not_before = a.not_before;
          up_to = ap (λ ps. (a.count + len) + carried ps) (behind-stays e past at a.within) ∙ a.up_to;
          following = ap (λ q. option_and_then (λ (f : Entry). head (filter_map cdc_in (drop at.post f.posts))) q) (entry-stays e past at.entry a.within) ∙ a.following;
          waiting = cdcs-append x o.offer.token rest (News link x) ∙
              (ap (λ cs. cs ++ cdcs x o.offer.token (News link x)) a.waiting ∙
              (ap (λ cs. (message Size o.offer.token a.sent ∷ map (message Size o.offer.token) a.later) ++ cs) (news-own setup payload e past before made owed beside x s o a.offered_is p.more p.sent_is link ∙ ap (λ ms. map (message Size o.offer.token) ms) (all-on link (K x s).link p.more there p.on)) ∙
              ap (λ cs. message Size o.offer.token a.sent ∷ cs) (sym (map-append (message Size o.offer.token) a.later p.more))));
        },
        refl,
      )

  pub aim-stays : (x : Side) (link : LinkId) → is_lost x link past ≡ false → (at : PostRef) (address len : ℕ) (rest : List Placed) (s : ℕ) (o : Offered)
      → IsAimed setup payload x link past at address len rest s o → IsAimed setup payload x link (e ∷ past) at address len (rest ++ News link x) s o
  aim-stays x link kept at address len rest s o a = (aim-stays-at x link kept at address len rest s o a).0

  -- and so is a new one
  pub aim-one-at : (x : Side) (link l : LinkId) → link ≡ l → (at : PostRef) (key address len : ℕ) (rest : List Placed) (posts : List Post) (s : ℕ) (o : Offered) (earlier : List Sent) (m : Sent) (later : List Sent)
      → at.entry ≤ length (e ∷ past) → offered (other x) s past ≡ Some o → given setup payload D past x s ≡ earlier ++ m ∷ later → (t : Tells Size x o (D ∷ past) l key address len m later posts)
      → following_cdc at (e ∷ past) ≡ head (filter_map cdc_in posts) → behind at (e ∷ past) ≡ posts → cdcs x o.offer.token rest ≡ filter_map (under link x o.offer.token) posts
      → (b : IsAimed setup payload x link (e ∷ past) at address len rest s o) × (b.count ≡ t.count)
  aim-one-at x link l same at key address len rest posts s o earlier m later within f g t following there-behind waiting =
      let n : IsNews (H x s) (K x s) (given setup payload D past x s) = news-of x s in
      let each = each-split (λ k. k.link ≡ (K x s).link) earlier m later (subst (λ ms. EachOf (λ k. k.link ≡ (K x s).link) ms) g n.on) in
      let on : (K x s).link ≡ link = sym each.0 ∙ (sym t.on ∙ sym same) in
      let there : same_link l (K x s).link ≡ true = ap (λ k. same_link l k) (on ∙ same) ∙ same-link l in
      let up : (K x s).up ≡ true = by-bool ((K x s).up ≡ true) (K x s).up (λ u. u) (λ u. absurd (not-none earlier m later (sym g ∙ n.none u))) in
      let by : IsSentBy link (K x s) m later = record { earlier = (H x s).sent ++ earlier; sent_is = n.sent_is ∙ (ap (λ ms. (H x s).sent ++ ms) g ∙ sym (append_assoc (H x s).sent earlier (m ∷ later))); up = up; on = on } in (
        record {
          within = within;
          offered_is = beside.kept (other x) s o f;
          sent = m;
          later = later;
          by = subst (λ g. IsSentBy link (half x (pipe_of setup payload g s (e ∷ past))) m later) (sym (then-is (other x) s o f)) by;
          some = t.some;
          from_start = t.from_start;
          to_end = t.to_end;
          count = t.count;
          address_is = t.address_is;
          in_one = t.in_one;
          not_before = t.not_before;
          up_to = ap (λ ps. (t.count + len) + carried ps) there-behind ∙ t.up_to;
          following = following ∙ t.first;
          waiting = waiting ∙ (ap (λ k. filter_map (under k x o.offer.token) posts) same ∙ (t.told ∙ ap (λ ms. message Size o.offer.token m ∷ map (message Size o.offer.token) ms) (all-on l (K x s).link later there each.1)));
        },
        refl,
      )

  pub aim-one : (x : Side) (link l : LinkId) → link ≡ l → (at : PostRef) (key address len : ℕ) (rest : List Placed) (posts : List Post) (s : ℕ) (o : Offered) (earlier : List Sent) (m : Sent) (later : List Sent)
      → at.entry ≤ length (e ∷ past) → offered (other x) s past ≡ Some o → given setup payload D past x s ≡ earlier ++ m ∷ later → Tells Size x o (D ∷ past) l key address len m later posts
      → following_cdc at (e ∷ past) ≡ head (filter_map cdc_in posts) → behind at (e ∷ past) ≡ posts → cdcs x o.offer.token rest ≡ filter_map (under link x o.offer.token) posts
      → IsAimed setup payload x link (e ∷ past) at address len rest s o
  aim-one x link l same at key address len rest posts s o earlier m later within f g t following there-behind waiting = (aim-one-at x link l same at key address len rest posts s o earlier m later within f g t following there-behind waiting).0

  -- which side and link a write is of
  pub on-is : (x : Side) (link : LinkId) (from : Side) (l : LinkId) → (same_side x from && passes (same_link link) (Some l)) ≡ true → (x ≡ from) × (link ≡ l)
  on-is x link from l q = let b = and-both (same_side x from) (same_link link l) q in (same-is x from b.0, link-is link l b.1)

  -- that a write is under the key that was bound last for the link
  abbrev pub IsKeyed : Side → LinkId → ℕ → Offered → Type 0
  IsKeyed x link key o = key ≡ unwrap_or (last_bound (other x) (rmb_at o.offer.address) link (D ∷ past)) 0

  pub aim-new : (x : Side) (link : LinkId) (at : PostRef) (from : Side) (l : LinkId) (key address len : ℕ) (rest : List Placed) → IsPosted R link x e past (record { at = at; post = Write from l key address len }) rest
      → (s : ℕ) × ((o : Offered) × (IsAimed setup payload x link (e ∷ past) at address len rest s o × IsKeyed x link key o))
  aim-new x link at from l key address len rest p =
      let n : NewWrite setup payload D past from l key address len p.posts = p.is in
      let on = on-is x link from l p.on in
      let side : x ≡ n.x = on.0 ∙ n.from_is in
      let t : Tells Size n.x n.offer (D ∷ past) l key address len n.sent n.later p.posts = n.tells in
      subst (λ z. (s : ℕ) × ((o : Offered) × (IsAimed setup payload z link (e ∷ past) at address len rest s o × IsKeyed z link key o))) (sym side) (
        n.s,
        (
          n.offer,
          (
            aim-one n.x link l on.1 at key address len rest p.posts n.s n.offer n.earlier n.sent n.later p.within n.offered_is n.given_is n.tells p.following p.behind_is (again n.x side n.offer.offer.token),
            t.key_is ∙ ap (λ k. unwrap_or (last_bound (other n.x) (rmb_at n.offer.offer.address) k (D ∷ past)) 0) (sym (on.1 ∙ t.on)),
          ),
        ),
      )
    where
      again : (z : Side) → x ≡ z → (token : ℕ) → cdcs z token rest ≡ filter_map (under link z token) p.posts
      again z same token = subst (λ y. cdcs y token rest ≡ filter_map (under link y token) p.posts) same (p.waiting token)

  stays-all : (x : Side) (link : LinkId) → is_lost x link past ≡ false → (at : PostRef) (post : Post) (rest : List Placed) → AimsAt setup payload x link past at post rest → AimsAt setup payload x link (e ∷ past) at post (rest ++ News link x)
  stays-all x link kept at (Write from l key address len) rest a = (a.0, (a.1.0, aim-stays x link kept at address len rest a.0 a.1.0 a.1.1))
  stays-all x link kept at (Cdc from l m) rest a = tt
  stays-all x link kept at (Llc from l m) rest a = tt
  stays-all x link kept at (Clc from s l m) rest a = tt

  new-all : (x : Side) (link : LinkId) (cs : List Placed) → EachBehind (IsPosted R link x e past) cs → EachBehind (Aims setup payload x link (e ∷ past)) cs
  new-all x link [] a = tt
  new-all x link (c ∷ cs) a = (by c.post refl, new-all x link cs a.1)
    where
      by : (post : Post) → c.post ≡ post → AimsAt setup payload x link (e ∷ past) c.at post cs
      by (Write from l key address len) q = let n = aim-new x link c.at from l key address len cs (subst (λ p. IsPosted R link x e past (record { at = c.at; post = p }) cs) q a.0) in (n.0, (n.1.0, n.1.1.0))
      by (Cdc from l m) q = tt
      by (Llc from l m) q = tt
      by (Clc from s l m) q = tt

  pub aimed-after : (x : Side) (link : LinkId) → is_lost x link past ≡ false → EachBehind (Aims setup payload x link past) (unlanded link x past) → EachBehind (Aims setup payload x link (e ∷ past)) (unlanded link x (e ∷ past))
  aimed-after x link kept was = behind-more (Aims setup payload x link past) (Aims setup payload x link (e ∷ past)) (News link x) (λ c rest a. stays-all x link kept c.at c.post rest a)
      (drop (leaving link x e past) (unlanded link x past)) (behind-drop (Aims setup payload x link past) (leaving link x e past) (unlanded link x past) was) (new-all x link (News link x) (all-posted link x))

-- after every history
pub all-aimed : (setup : Setup) (payload : List ℕ) (past : List Entry) → IsMadeAll setup payload past → AllPlain setup payload past → (x : Side) (link : LinkId) → is_lost x link past ≡ false → EachBehind (Aims setup payload x link past) (unlanded link x past)
all-aimed setup payload [] m a x link kept = tt
all-aimed setup payload (e ∷ past) m a x link kept =
    let h : Holds setup payload past = holds setup payload past m.1 a.1.1 in
    let old : is_lost x link past ≡ false = or-right _ (is_lost x link past) kept in
    aimed-after setup payload e past m.0.0 m.0.1 (now-owed setup payload past h.all) a.1.0.0 h.all h.agree x link old (all-aimed setup payload past m.1 a.1.1 x link old)
