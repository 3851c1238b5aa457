-- The fields of the CLC messages that wait to be taken have the widths of their types, and fit.
use Rattle.std.proofs.Common.{◌≡◌, ◌∙◌, ap, sym, subst, refl, arith, eq-eqb}
use Rattle.std.specs.Prelude.{Bool, List, Option, Some, None, [], false, true, filter_map, if◌then◌else◌, length, drop, ℕ, suc, ◌+◌, ◌*◌, ◌^◌, ◌==◌, ◌≤◌, ◌<◌, ◌∷◌, slice_index_or}
use Rattle.std.specs.Option.{option_or}
use Rattle.std.specs.List.{cons_option}
use Rattle.smc_num.specs.declared.Side.{Side}
use Rattle.smc_num.specs.declared.Side.TheVariants.{A, B}
use Rattle.smc_num.specs.declared.LinkId.{LinkId}
use Rattle.smc_num.specs.Names.{head, at_side}
use Rattle.clc_wire.specs.declared.offer.Offer.{Offer}
use Rattle.clc_wire.specs.declared.message.ClcMessage.{ClcMessage}
use Rattle.clc_wire.specs.declared.message.ClcMessage.TheVariants.{Proposal as ProposalMessage, Accept as AcceptMessage, Confirm as ConfirmMessage, Decline as DeclineMessage}
use Rattle.clc_wire.specs.Clc.{Fits, IsMessage}
use Rattle.pipe_model.specs.declared.reply.Lack.{Lack}
use Rattle.pipe_model.specs.declared.reply.Lack.TheVariants.{NotCapable, NoSubnet, NoServerElement, NoClientElement, NoSlot, GroupLost, Raw}
use Rattle.pipe_model.specs.declared.setup.Setup.{Setup}
use Rattle.pipe_model.specs.declared.entry.Entry.{Entry}
use Rattle.pipe_model.specs.declared.post.Post.TheVariants.{Clc}
use Rattle.pipe_model.specs.History.{Offered, offered, offer_in, offered_if}
use Rattle.pipe_model.specs.Lending.{lendings}
use Rattle.pipe_model.specs.Messages.{diagnosis, new_pair, next_pair, pair_number, pair_on, proposal, refusal, serial}
use Rattle.pipe_model.specs.Posts.{new_offer}
use Rattle.pipe_model.specs.Fallback.{clc_in, takes_clc, untaken}
use Rattle.side_core.specs.Setups.{IsSet}
use Rattle.world_core.specs.OneLink.{is_of_first}
use Rattle.world_core.specs.Played.{IsOneLink, IsPlayed}
use Rattle.world_core.specs.Sockets.{HasWorld, IsOffer}
use Rattle.world_core.proofs.ClcLengths.{EachMessage, each-append, each-drop-one, each-first}
use Rattle.world_core.proofs.ClcPosts.{IsNew, News, NoNews, OneNews, news, puts}
use Rattle.world_core.proofs.LendingFacts.{few-lendings, played-lendings}
use Rattle.world_core.proofs.PlayedWorlds.{played}
use Rattle.world_core.proofs.Records.{all-offers}

-- how many queue pairs a side has made, and their numbers
pub serial-most : (x : Side) (past : List Entry) → serial x past ≤ length past
serial-most x [] = omega arith
serial-most x (e ∷ past) = by (new_pair x e past == 0) (serial-most x past)
  where
    by : (b : Bool) → serial x past ≤ length past → serial x past + (if b then 0 else 1) ≤ suc (length past)
    by true h = omega (arith, h)
    by false h = omega (arith, h)

pair-most : (x : Side) (k : ℕ) (past : List Entry) → pair_on x k past ≤ 16 * length past + k
pair-most x k [] = omega arith
pair-most x k (e ∷ past) = by (new_pair x e past == k) (pair-most x k past) (serial-most x past)
  where
    by : (b : Bool) → pair_on x k past ≤ 16 * length past + k → serial x past ≤ length past → (if b then pair_number (serial x past + 1) k else pair_on x k past) ≤ 16 * (suc (length past)) + k
    by true h l = omega (arith, h, l)
    by false h l = omega (arith, h, l)

-- an offer that was made in a history of so many entries
record IsSpelt (setup : Setup) (n : ℕ) (o : Offer) : Type 0 where
  peer : length o.peer ≡ 8
  gid : length o.gid ≡ 16
  mac : length o.mac ≡ 6
  qp : o.qp ≤ 16 * n + 1
  token : o.token ≤ setup.sockets + 1
  key : o.key < 2 ^ 32
  address : o.address < 2 ^ 64
  size : o.size ≡ setup.size_code
  mtu : o.mtu ≡ 5
  psn : o.psn ≡ 1

-- a message of such a history
abbrev IsOld : Setup → ℕ → ClcMessage → Type 0
IsOld setup n (ProposalMessage p) = p ≡ proposal setup
IsOld setup n (AcceptMessage o) = IsSpelt setup n o
IsOld setup n (ConfirmMessage o) = IsSpelt setup n o
IsOld setup n (DeclineMessage r) = (y : Side) × ((lack : Lack) × (r ≡ refusal y lack))

older : (setup : Setup) (n : ℕ) (o : Offer) → IsSpelt setup n o → IsSpelt setup (suc n) o
older setup n o i = let q = i.qp in record { peer = i.peer; gid = i.gid; mac = i.mac; qp = omega (arith, q); token = i.token; key = i.key; address = i.address; size = i.size; mtu = i.mtu; psn = i.psn }

all-older : (setup : Setup) (n : ℕ) (ms : List ClcMessage) → EachMessage (IsOld setup n) ms → EachMessage (IsOld setup (suc n)) ms
all-older setup n [] a = tt
all-older setup n (ProposalMessage p ∷ ms) a = (a.0, all-older setup n ms a.1)
all-older setup n (AcceptMessage o ∷ ms) a = (older setup n o a.0, all-older setup n ms a.1)
all-older setup n (ConfirmMessage o ∷ ms) a = (older setup n o a.0, all-older setup n ms a.1)
all-older setup n (DeclineMessage r ∷ ms) a = (a.0, all-older setup n ms a.1)

-- the numbers of an offer that is made
new-lengths : (setup : Setup) (payload : List ℕ) (y : Side) (first : Bool) (link : LinkId) (past : List Entry) → let o : Offer = new_offer setup payload y first link past in (length o.peer ≡ 8) × ((length o.gid ≡ 16) × (length o.mac ≡ 6))
new-lengths setup payload A first link past = (refl, (refl, refl))
new-lengths setup payload B first link past = (refl, (refl, refl))

new-pair-most : (y : Side) (first : Bool) (past : List Entry) → (if first then next_pair y 1 past else pair_on y 1 past) ≤ 16 * (suc (length past)) + 1
new-pair-most y true past = let l = serial-most y past in omega (arith, l)
new-pair-most y false past = let l = pair-most y 1 past in omega (arith, l)

key-fits : (x : Side) → at_side x 257 513 < 2 ^ 32
key-fits A = omega arith
key-fits B = omega arith

module _ (setup : Setup) (one : IsOneLink setup) (payload : List ℕ) where
  -- an offer that an entry makes
  made-so : (e : Entry) (past : List Entry) (n : ℕ) (p : IsPlayed setup payload (e ∷ past) n) (y : Side) (s : ℕ) (link : LinkId) (first : Bool) (o : Offer) → o ≡ new_offer setup payload y first link past
      → offered y s (e ∷ past) ≡ Some (record { link = link; offer = o }) → IsSpelt setup (suc (length past)) o
  made-so e past n p y s link first o is there =
      let w : HasWorld setup (e ∷ past) = played setup one payload (e ∷ past) n p in
      let f = all-offers setup w.stage (e ∷ past) w.world y s (record { link = link; offer = o }) there in
      let i : IsOffer setup y (is_of_first w.stage s) o = f.1 in
      let long = new-lengths setup payload y first link past in
      let few = few-lendings setup payload y past (played-lendings setup one payload past p.0 p.3 y) in
      let pair : (if first then next_pair y link.slot past else pair_on y link.slot past) ≤ 16 * (suc (length past)) + 1 =
      subst (λ (l : LinkId). (if first then next_pair y l.slot past else pair_on y l.slot past) ≤ 16 * (suc (length past)) + 1) (sym f.0) (new-pair-most y first past) in
      let counted : o.token ≡ length (lendings y past) + 1 = ap (λ (q : Offer). q.token) is in
      record {
        peer = ap (λ (q : Offer). length q.peer) is ∙ long.0;
        gid = ap (λ (q : Offer). length q.gid) is ∙ long.1.0;
        mac = ap (λ (q : Offer). length q.mac) is ∙ long.1.1;
        qp = subst (λ (q : Offer). q.qp ≤ 16 * (suc (length past)) + 1) (sym is) pair;
        token = omega (arith, counted, few);
        key = subst (λ k. k < 2 ^ 32) (sym i.key) (key-fits y);
        address = subst (λ k. k < 2 ^ 64) (sym i.address) (omega arith);
        size = i.size;
        mtu = i.mtu;
        psn = i.psn;
      }

  made-old : (e : Entry) (past : List Entry) (n : ℕ) (p : IsPlayed setup payload (e ∷ past) n) (x : Side) (s : ℕ) (link : Option LinkId) (m : ClcMessage)
      → filter_map (offer_in x s) e.posts ≡ filter_map (offer_in x s) (Clc x s link m ∷ []) → IsNew setup payload x past link m → IsOld setup (suc (length past)) m
  made-old e past n p x s link (ProposalMessage q) offers is = is
  made-old e past n p x s link (DeclineMessage r) offers is = (x, is)
  made-old e past n p x s None (AcceptMessage o) offers is = absurd is.1
  made-old e past n p x s None (ConfirmMessage o) offers is = absurd is.1
  made-old e past n p A s (Some link) (AcceptMessage o) offers is = let f : A ≡ B = is.0 in cc
  made-old e past n p B s (Some link) (ConfirmMessage o) offers is = let f : B ≡ A = is.0 in cc
  made-old e past n p B s (Some link) (AcceptMessage o) offers is =
      made-so e past n p B s link is.1.0 o is.1.1
      (ap (λ (os : List Offered). option_or (head os) (offered B s past)) offers ∙ ap (λ b. option_or (head (cons_option (offered_if b link o) [])) (offered B s past)) (eq-eqb s s refl))
  made-old e past n p A s (Some link) (ConfirmMessage o) offers is =
      made-so e past n p A s link is.1.0 o is.1.1
      (ap (λ (os : List Offered). option_or (head os) (offered A s past)) offers ∙ ap (λ b. option_or (head (cons_option (offered_if b link o) [])) (offered A s past)) (eq-eqb s s refl))

  all-old : (past : List Entry) (n : ℕ) → IsPlayed setup payload past n → (x : Side) (s : ℕ) → EachMessage (IsOld setup (length past)) (untaken x s past)
  all-old [] n p x s = tt
  all-old (e ∷ past) n p x s =
      each-append (IsOld setup (suc (length past))) (drop (if takes_clc x s e.event e.reply then 1 else 0) (untaken x s past)) (filter_map (clc_in x s) e.posts)
      (each-drop-one (IsOld setup (suc (length past))) (takes_clc x s e.event e.reply) (untaken x s past) (all-older setup (length past) (untaken x s past) (all-old past p.0 p.3 x s)))
      (by (news setup payload e past (puts setup one payload e past n p) x s))
    where
      by : News setup payload e past x s → EachMessage (IsOld setup (suc (length past))) (filter_map (clc_in x s) e.posts)
      by (NoNews is) = subst (λ (ms : List ClcMessage). EachMessage (IsOld setup (suc (length past))) ms) (sym is) tt
      by (OneNews link m is offers side a) = subst (λ (ms : List ClcMessage). EachMessage (IsOld setup (suc (length past))) ms) (sym is) (made-old e past n p x s link m offers a.new, tt)

-- the fields of such messages fit
offer-fits : (setup : Setup) (n : ℕ) (o : Offer) → n ≤ 2 ^ 18 → setup.size_code ≤ 5 → IsSpelt setup n o → (o.qp < 2 ^ 24) × (o.size < 16) × (o.mtu < 16) × (o.psn < 2 ^ 24)
offer-fits setup n o few small i =
    let q = i.qp in
    let s = i.size in
    let m = i.mtu in
    let p = i.psn in
    (omega (arith, q, few), omega (arith, s, small), omega (arith, m), omega (arith, p))

diagnosis-fits : (lack : Lack) → diagnosis lack < 2 ^ 32
diagnosis-fits (NotCapable a b) = omega arith
diagnosis-fits NoSubnet = omega arith
diagnosis-fits (NoServerElement elements) = omega arith
diagnosis-fits (NoClientElement elements) = omega arith
diagnosis-fits (NoSlot links) = omega arith
diagnosis-fits (GroupLost named stands) = omega arith
diagnosis-fits Raw = omega arith

old-fits : (setup : Setup) (n : ℕ) (m : ClcMessage) → n ≤ 2 ^ 18 → setup.size_code ≤ 5 → IsOld setup n m → Fits m
old-fits setup n (ProposalMessage p) few small is = tt
old-fits setup n (AcceptMessage o) few small is = offer-fits setup n o few small is
old-fits setup n (ConfirmMessage o) few small is = offer-fits setup n o few small is
old-fits setup n (DeclineMessage r) few small is = tt

-- whose fields have their widths
offer-is : (setup : Setup) (n : ℕ) (o : Offer) → setup.sockets ≤ 256 → IsSpelt setup n o
    → (length o.peer ≡ 8) × (length o.gid ≡ 16) × (length o.mac ≡ 6) × (o.key < 2 ^ 32) × (o.token < 2 ^ 32) × (o.address < 2 ^ 64)
offer-is setup n o few i = let t = i.token in (i.peer, i.gid, i.mac, i.key, omega (arith, t, few), i.address)

old-is : (setup : Setup) (n : ℕ) (m : ClcMessage) → setup.sockets ≤ 256 → (slice_index_or setup.subnet 0 (0, 0)).0 < 2 ^ 32 → IsOld setup n m → IsMessage m
old-is setup n (ProposalMessage p) few subnet is = subst (λ q. IsMessage (ProposalMessage q)) (sym is) (refl, refl, refl, subnet)
old-is setup n (AcceptMessage o) few subnet is = offer-is setup n o few is
old-is setup n (ConfirmMessage o) few subnet is = offer-is setup n o few is
old-is setup n (DeclineMessage r) few subnet is = subst (λ q. IsMessage (DeclineMessage q)) (sym is.1.1) (peer-long is.0, diagnosis-fits is.1.0)
  where
    peer-long : (y : Side) → length (refusal y is.1.0).peer ≡ 8
    peer-long A = refl
    peer-long B = refl

module _ (setup : Setup) (one : IsOneLink setup) (payload : List ℕ) (past : List Entry) (n : ℕ) (q : IsPlayed setup payload past n) (few : length past ≤ 2 ^ 18) (y : Side) (set : IsSet setup y) (x : Side) (s : ℕ) (m : ClcMessage) (first : head (untaken x s past) ≡ Some m) where
  old : IsOld setup (length past) m
  old = each-first (IsOld setup (length past)) (untaken x s past) m (all-old setup one payload past n q x s) first

  pub untaken-fits : Fits m
  untaken-fits = old-fits setup (length past) m few set.size old

  pub untaken-is-message : (slice_index_or setup.subnet 0 (0, 0)).0 < 2 ^ 32 → IsMessage m
  untaken-is-message subnet = old-is setup (length past) m set.sockets subnet old
