-- Laws of sets of edges: what an insert does to the rank, to well-formedness and to what is covered.
use Rattle.std.specs.Prelude.{ℕ, suc, ◌<◌, ◌≤◌, min, true, Bool, false, not, ◌&&◌, ◌||◌, cond, List, [], ◌∷◌, map, ◌⊎◌, ◌≢◌, ◌≡◌, refl, eqb, ltb, leb, length}
use Rattle.std.proofs.Common.{arith, true≢false, inl, inr, ap, ◌∙◌, sym, subst}
use Rattle.std.proofs.lemmas.Bool.{false≢true}
use Rattle.std.specs.Bool.{beq}
use Rattle.meaning.specs.Answers.{ok, refuse}
use Rattle.meaning.specs.Lists.{any, all}
use Rattle.meaning.specs.References.{eq_path, Edge, eq_edge, prefix, covers, weakest, put, lt_edge, lt_path, has, ordered, EdgeSet, blur, short, insert, is_blur, set_ok, covered}
use Rattle.meaning.proofs.Laws.Base.{and_l, and_r, eqb_eq, and_i, eqb_self, or_l, or_r, le_leb, leb_le, or_cases, decide, leb_gt, all_imp, refuse≢ok, ok_inj, or_no_l, or_no_r, beq_eq}

-- ---- an edge without its offset (Laws/Offsets says what ignores it)

abbrev pub plain : Edge → Edge
plain e = record { strong = e.strong; path = e.path; offset = 0 }

abbrev pub plain_set : EdgeSet → EdgeSet
plain_set s = record { edges = map plain s.edges; blurred = s.blurred }

pub covered_plain : (es : List Edge) (f : Edge) → covered (map plain es) f ≡ covered es f
unfolding covers eq_edge
covered_plain [] f = refl
covered_plain (e ∷ es) f = ap (λ (b : Bool). covers e f || b) (covered_plain es f)

-- ---- equality of edges is its test

pub eq_path_eq : (xs ys : List ℕ) → eq_path xs ys ≡ true → xs ≡ ys
unfolding eq_path
eq_path_eq [] [] e = refl
eq_path_eq [] (y ∷ ys) e = absurd (false≢true e)
eq_path_eq (x ∷ xs) [] e = absurd (false≢true e)
eq_path_eq (x ∷ xs) (y ∷ ys) e =
    let h : x ≡ y = eqb_eq (and_l (eqb x y) (eq_path xs ys) e) in
    let t : xs ≡ ys = eq_path_eq xs ys (and_r (eqb x y) (eq_path xs ys) e) in
    λ i. h i ∷ t i

pub eq_path_self : (xs : List ℕ) → eq_path xs xs ≡ true
unfolding eq_path
eq_path_self [] = refl
eq_path_self (x ∷ xs) = and_i (eqb_self x) (eq_path_self xs)

pub beq_self : (a : Bool) → beq a a ≡ true
beq_self true = refl
beq_self false = refl

pub eq_edge_eq : (e f : Edge) → eq_edge e f ≡ true → plain e ≡ plain f
unfolding eq_edge
eq_edge_eq e f h =
    let p : e.strong ≡ f.strong = beq_eq e.strong f.strong (and_l (beq e.strong f.strong) (eq_path e.path f.path) h) in
    let q : e.path ≡ f.path = eq_path_eq e.path f.path (and_r (beq e.strong f.strong) (eq_path e.path f.path) h) in
    λ i. record { strong = p i; path = q i; offset = 0 }

pub eq_edge_self : (e : Edge) → eq_edge e e ≡ true
unfolding eq_edge
eq_edge_self e = and_i (beq_self e.strong) (eq_path_self e.path)

pub covers_self : (e : Edge) → covers e e ≡ true
unfolding covers
covers_self e = or_l (not e.strong && prefix e.path e.path) (eq_edge_self e)

pub weakest_covers : (o : ℕ) (e : Edge) → covers (weakest o) e ≡ true
unfolding covers prefix
weakest_covers o e = or_r (eq_edge (weakest o) e) refl

-- ---- put

pub or_swap : (a b c : Bool) → a || (b || c) ≡ b || (a || c)
or_swap true true c = refl
or_swap true false c = refl
or_swap false true c = refl
or_swap false false c = refl

and_swap : (a b c : Bool) → a && (b && c) ≡ b && (a && c)
and_swap true true c = refl
and_swap true false c = refl
and_swap false true c = refl
and_swap false false c = refl

any_cond : (q : Edge → Bool) (b : Bool) (e x : Edge) (xs ys : List Edge) → any q ys ≡ q e || any q xs
    → any q (cond b (e ∷ x ∷ xs) (x ∷ ys)) ≡ q e || (q x || any q xs)
any_cond q true e x xs ys h = refl
any_cond q false e x xs ys h = ap (λ (z : Bool). q x || z) h ∙ or_swap (q x) (q e) (any q xs)

pub any_put : (q : Edge → Bool) (e : Edge) (xs : List Edge) → any q (put e xs) ≡ q e || any q xs
unfolding put
any_put q e [] = refl
any_put q e (x ∷ xs) = any_cond q (lt_edge e x) e x xs (put e xs) (any_put q e xs)

all_cond : (q : Edge → Bool) (b : Bool) (e x : Edge) (xs ys : List Edge) → all q ys ≡ q e && all q xs
    → all q (cond b (e ∷ x ∷ xs) (x ∷ ys)) ≡ q e && (q x && all q xs)
all_cond q true e x xs ys h = refl
all_cond q false e x xs ys h = ap (λ (z : Bool). q x && z) h ∙ and_swap (q x) (q e) (all q xs)

all_put : (q : Edge → Bool) (e : Edge) (xs : List Edge) → all q (put e xs) ≡ q e && all q xs
unfolding put
all_put q e [] = refl
all_put q e (x ∷ xs) = all_cond q (lt_edge e x) e x xs (put e xs) (all_put q e xs)

length_cond : (b : Bool) (e x : Edge) (xs ys : List Edge) → length ys ≡ suc (length xs) → length (cond b (e ∷ x ∷ xs) (x ∷ ys)) ≡ suc (suc (length xs))
length_cond true e x xs ys h = refl
length_cond false e x xs ys h = ap suc h

pub length_put : (e : Edge) (xs : List Edge) → length (put e xs) ≡ suc (length xs)
unfolding put
length_put e [] = refl
length_put e (x ∷ xs) = length_cond (lt_edge e x) e x xs (put e xs) (length_put e xs)

-- ---- the order of edges

ltb_i : {m n : ℕ} → m < n → ltb m n ≡ true
ltb_i h = le_leb h

ltb_e : {m n : ℕ} → ltb m n ≡ true → m < n
ltb_e e = leb_le e

lt_path_trans : (xs ys zs : List ℕ) → lt_path xs ys ≡ true → lt_path ys zs ≡ true → lt_path xs zs ≡ true
unfolding lt_path
lt_path_trans [] [] zs p q = absurd (false≢true p)
lt_path_trans [] (y ∷ ys) [] p q = absurd (false≢true q)
lt_path_trans [] (y ∷ ys) (z ∷ zs) p q = refl
lt_path_trans (x ∷ xs) [] zs p q = absurd (false≢true p)
lt_path_trans (x ∷ xs) (y ∷ ys) [] p q = absurd (false≢true q)
lt_path_trans (x ∷ xs) (y ∷ ys) (z ∷ zs) p q =
    go (or_cases (ltb x y) (eqb x y && lt_path xs ys) p) (or_cases (ltb y z) (eqb y z && lt_path ys zs) q) (lt_path_trans xs ys zs)
  where
    go : (ltb x y ≡ true) ⊎ (eqb x y && lt_path xs ys ≡ true) → (ltb y z ≡ true) ⊎ (eqb y z && lt_path ys zs ≡ true)
        → (lt_path xs ys ≡ true → lt_path ys zs ≡ true → lt_path xs zs ≡ true) → ltb x z || (eqb x z && lt_path xs zs) ≡ true
    go (inl a) (inl b) r =
        let h : x < y = ltb_e {m = x} {n = y} a in
        let k : y < z = ltb_e {m = y} {n = z} b in
        or_l (eqb x z && lt_path xs zs) (ltb_i {m = x} {n = z} (omega arith))
    go (inl a) (inr b) r = or_l (eqb x z && lt_path xs zs) (subst (λ (n : ℕ). ltb x n ≡ true) (eqb_eq (and_l (eqb y z) (lt_path ys zs) b)) a)
    go (inr a) (inl b) r = or_l (eqb x z && lt_path xs zs) (subst (λ (n : ℕ). ltb n z ≡ true) (sym (eqb_eq (and_l (eqb x y) (lt_path xs ys) a))) b)
    go (inr a) (inr b) r =
        or_r (ltb x z) (and_i (subst (λ (n : ℕ). eqb n z ≡ true) (sym (eqb_eq (and_l (eqb x y) (lt_path xs ys) a))) (and_l (eqb y z) (lt_path ys zs) b))
        (r (and_r (eqb x y) (lt_path xs ys) a) (and_r (eqb y z) (lt_path ys zs) b)))

lt_path_total : (xs ys : List ℕ) → lt_path xs ys ≡ false → eq_path xs ys ≡ false → lt_path ys xs ≡ true
unfolding lt_path eq_path
lt_path_total [] [] p q = absurd (true≢false q)
lt_path_total [] (y ∷ ys) p q = absurd (true≢false p)
lt_path_total (x ∷ xs) [] p q = refl
lt_path_total (x ∷ xs) (y ∷ ys) p q =
    decide (ltb y x) (λ h. or_l (eqb y x && lt_path ys xs) h)
    (λ h. let a : y ≤ x = le_of_no (ltb x y) (or_no_l (ltb x y) (eqb x y && lt_path xs ys) p) refl in
    let b : x ≤ y = le_of_no2 h in
    let e : y ≡ x = omega arith in
    let t : eqb x y ≡ true = subst (λ (n : ℕ). eqb x n ≡ true) (sym e) (eqb_self x) in
    or_r (ltb y x) (and_i (subst (λ (n : ℕ). eqb y n ≡ true) e (eqb_self y))
    (lt_path_total xs ys (second (eqb x y) (lt_path xs ys) t (or_no_r (ltb x y) (eqb x y && lt_path xs ys) p)) (second (eqb x y) (eq_path xs ys) t q))))
  where
    le_of_no : (b : Bool) → b ≡ false → ltb x y ≡ b → y ≤ x
    le_of_no b f g = let h : y < suc x = leb_gt {m = suc x} {n = y} (g ∙ f) in omega arith

    le_of_no2 : ltb y x ≡ false → x ≤ y
    le_of_no2 f = let h : x < suc y = leb_gt {m = suc y} {n = x} f in omega arith

    second : (a b : Bool) → a ≡ true → a && b ≡ false → b ≡ false
    second true b t f = f
    second false b t f = absurd (false≢true t)

tri : (a b c x y z : Bool) → (not a && b) || (beq a b && x) ≡ true → (not b && c) || (beq b c && y) ≡ true → (x ≡ true → y ≡ true → z ≡ true)
    → (not a && c) || (beq a c && z) ≡ true
tri true true true x y z p q k = k p q
tri true true false x y z p q k = absurd (false≢true q)
tri true false c x y z p q k = absurd (false≢true p)
tri false true true x y z p q k = refl
tri false true false x y z p q k = absurd (false≢true q)
tri false false true x y z p q k = refl
tri false false false x y z p q k = k p q

pub lt_edge_trans : (e f g : Edge) → lt_edge e f ≡ true → lt_edge f g ≡ true → lt_edge e g ≡ true
unfolding lt_edge
lt_edge_trans e f g p q =
    tri e.strong f.strong g.strong (lt_path e.path f.path) (lt_path f.path g.path) (lt_path e.path g.path) p q (lt_path_trans e.path f.path g.path)

tot : (a b x y z : Bool) → (not a && b) || (beq a b && x) ≡ false → beq a b && y ≡ false → (x ≡ false → y ≡ false → z ≡ true)
    → (not b && a) || (beq b a && z) ≡ true
tot true true x y z p q k = k p q
tot true false x y z p q k = refl
tot false true x y z p q k = absurd (true≢false p)
tot false false x y z p q k = k p q

pub lt_edge_total : (e f : Edge) → lt_edge e f ≡ false → eq_edge e f ≡ false → lt_edge f e ≡ true
unfolding lt_edge eq_edge
lt_edge_total e f p q =
    tot e.strong f.strong (lt_path e.path f.path) (eq_path e.path f.path) (lt_path f.path e.path) p q (lt_path_total e.path f.path)

ordered_cond : (b : Bool) (e x : Edge) (xs ys : List Edge) → lt_edge e x ≡ b → has e (x ∷ xs) ≡ false → ordered (x ∷ xs) ≡ true
    → all (lt_edge x) ys ≡ lt_edge x e && all (lt_edge x) xs → ordered ys ≡ true → ordered (cond b (e ∷ x ∷ xs) (x ∷ ys)) ≡ true
unfolding ordered has
ordered_cond true e x xs ys l n d h k =
    and_i (and_i l (all_imp (lt_edge x) (lt_edge e) (λ y m. lt_edge_trans e x y l m) xs (and_l (all (lt_edge x) xs) (ordered xs) d))) d
ordered_cond false e x xs ys l n d h k =
    and_i (h ∙ and_i (lt_edge_total e x l (or_no_l (eq_edge e x) (has e xs) n)) (and_l (all (lt_edge x) xs) (ordered xs) d)) k

ordered_put : (e : Edge) (xs : List Edge) → has e xs ≡ false → ordered xs ≡ true → ordered (put e xs) ≡ true
unfolding put ordered has
ordered_put e [] n d = refl
ordered_put e (x ∷ xs) n d =
    ordered_cond (lt_edge e x) e x xs (put e xs) refl n d (all_put (lt_edge x) e xs)
    (ordered_put e xs (or_no_r (eq_edge e x) (has e xs) n) (and_r (all (lt_edge x) xs) (ordered xs) d))

-- ---- what an insert does

pub data Inserted (s : EdgeSet) (e : Edge) (t : EdgeSet) : Type 0 where
  before : s.blurred ≡ true → s ≡ t → Inserted s e t
  just_now : s.blurred ≡ false → 10 ≤ length s.edges → t ≡ blur e.offset → Inserted s e t
  present : s.blurred ≡ false → has e s.edges ≡ true → s ≡ t → Inserted s e t
  added : s.blurred ≡ false → length s.edges < 10 → short e ≡ true → has e s.edges ≡ false
      → t ≡ record { edges = put e s.edges; blurred = false } → Inserted s e t

by_tests : (s : EdgeSet) (e : Edge) (t : EdgeSet) (b c d h : Bool)
    → s.blurred ≡ b → leb 10 (length s.edges) ≡ c → short e ≡ d → has e s.edges ≡ h
    → cond b (ok s) (cond c (ok (blur e.offset))
    (cond d (cond h (ok s) (ok (record { edges = put e s.edges; blurred = false }))) (refuse 22))) ≡ ok t
    → Inserted s e t
by_tests s e t true c d h eb ec ed eh q = before eb (ok_inj q)
by_tests s e t false true d h eb ec ed eh q = just_now eb (leb_le ec) (sym (ok_inj q))
by_tests s e t false false true true eb ec ed eh q = present eb eh (ok_inj q)
by_tests s e t false false true false eb ec ed eh q = added eb (leb_gt ec) ed eh (sym (ok_inj q))
by_tests s e t false false false h eb ec ed eh q = absurd (refuse≢ok q)

pub inserted : (s : EdgeSet) (e : Edge) (t : EdgeSet) → insert s e ≡ ok t → Inserted s e t
unfolding insert short
inserted s e t q = by_tests s e t s.blurred (leb 10 (length s.edges)) (short e) (has e s.edges) refl refl refl refl q

-- ---- the rank of a set

unfoldable pub set_rank : EdgeSet → ℕ
set_rank s = cond s.blurred 11 (min 10 (length s.edges))

cond_rank : (b : Bool) (n : ℕ) → cond b 11 (min 10 n) ≤ 11
cond_rank true n = omega arith
cond_rank false n = omega arith

pub set_rank_le : (s : EdgeSet) → set_rank s ≤ 11
unfolding set_rank
set_rank_le s = cond_rank s.blurred (length s.edges)

unblurred : (s : EdgeSet) → s.blurred ≡ false → set_rank s ≡ min 10 (length s.edges)
unfolding set_rank
unblurred s e = ap (λ (b : Bool). cond b 11 (min 10 (length s.edges))) e

pub insert_rank : (s : EdgeSet) (e : Edge) (t : EdgeSet) → Inserted s e t → (s ≡ t) ⊎ (set_rank s < set_rank t)
unfolding set_rank
insert_rank s e t (before b q) = inl q
insert_rank s e t (present b h q) = inl q
insert_rank s e t (just_now b l q) =
    let r : set_rank s ≡ min 10 (length s.edges) = unblurred s b in
    let k : set_rank t ≡ 11 = ap set_rank q in
    inr (omega arith)
insert_rank s e t (added b l k h q) =
    let r : set_rank s ≡ min 10 (length s.edges) = unblurred s b in
    let m : set_rank t ≡ min 10 (length (put e s.edges)) = ap set_rank q in
    let n : length (put e s.edges) ≡ suc (length s.edges) = length_put e s.edges in
    inr (omega arith)

pub insert_rank_le : (s : EdgeSet) (e : Edge) (t : EdgeSet) → Inserted s e t → set_rank s ≤ set_rank t
insert_rank_le s e t i = go (insert_rank s e t i)
  where
    go : (s ≡ t) ⊎ (set_rank s < set_rank t) → set_rank s ≤ set_rank t
    go (inl q) = let r : set_rank s ≡ set_rank t = ap set_rank q in omega arith
    go (inr h) = omega arith

-- the rank rises exactly where the set changes
pub insert_rank_iff : (s : EdgeSet) (e : Edge) (t : EdgeSet) → Inserted s e t → (set_rank s < set_rank t → s ≢ t) × (s ≢ t → set_rank s < set_rank t)
insert_rank_iff s e t i = (λ h q. let r : set_rank s ≡ set_rank t = ap set_rank q in omega arith, λ n. go n (insert_rank s e t i))
  where
    go : s ≢ t → (s ≡ t) ⊎ (set_rank s < set_rank t) → set_rank s < set_rank t
    go n (inl q) = absurd (n q)
    go n (inr h) = h

-- ---- well-formedness

pub set_ok_unblurred : (s : EdgeSet) → s.blurred ≡ false → set_ok s ≡ (leb (length s.edges) 10 && (all short s.edges && ordered s.edges))
unfolding set_ok
set_ok_unblurred s b = ap (λ (x : Bool). cond x (is_blur s.edges) (leb (length s.edges) 10 && (all short s.edges && ordered s.edges))) b

blur_ok : (o : ℕ) → set_ok (blur o) ≡ true
unfolding set_ok is_blur eq_edge eq_path
blur_ok o = refl

pub insert_set_ok : (s : EdgeSet) (e : Edge) (t : EdgeSet) → Inserted s e t → set_ok s ≡ true → set_ok t ≡ true
insert_set_ok s e t (before b q) h = subst (λ (x : EdgeSet). set_ok x ≡ true) q h
insert_set_ok s e t (present b p q) h = subst (λ (x : EdgeSet). set_ok x ≡ true) q h
insert_set_ok s e t (just_now b l q) h = ap set_ok q ∙ blur_ok e.offset
insert_set_ok s e t (added b l k p q) h =
    let xs : List Edge = s.edges in
    let o : leb (length xs) 10 && (all short xs && ordered xs) ≡ true = sym (set_ok_unblurred s b) ∙ h in
    let o2 : all short xs && ordered xs ≡ true = and_r (leb (length xs) 10) (all short xs && ordered xs) o in
    let n : length (put e xs) ≡ suc (length xs) = length_put e xs in
    let m : length (put e xs) ≤ 10 = omega arith in
    ap set_ok q
    ∙ set_ok_unblurred (record { edges = put e xs; blurred = false }) refl
    ∙ and_i (le_leb m) (and_i (all_put short e xs ∙ and_i k (and_l (all short xs) (ordered xs) o2)) (ordered_put e xs p (and_r (all short xs) (ordered xs) o2)))

-- ---- covering

blur_covers : (o : ℕ) (f : Edge) → covered (blur o).edges f ≡ true
blur_covers o f = or_l false (weakest_covers o f)

-- what was covered stays so
pub insert_covers : (s : EdgeSet) (e : Edge) (t : EdgeSet) (f : Edge) → Inserted s e t → covered s.edges f ≡ true → covered t.edges f ≡ true
insert_covers s e t f (before b q) h = subst (λ (x : EdgeSet). covered x.edges f ≡ true) q h
insert_covers s e t f (present b p q) h = subst (λ (x : EdgeSet). covered x.edges f ≡ true) q h
insert_covers s e t f (just_now b l q) h = ap (λ (x : EdgeSet). covered x.edges f) q ∙ blur_covers e.offset f
insert_covers s e t f (added b l k p q) h =
    ap (λ (x : EdgeSet). covered x.edges f) q ∙ any_put (λ d. covers d f) e s.edges ∙ or_r (covers e f) h

is_blur_covers : (xs : List Edge) (f : Edge) → is_blur xs ≡ true → covered xs f ≡ true
unfolding is_blur covers eq_edge
is_blur_covers [] f h = absurd (false≢true h)
is_blur_covers (x ∷ []) f h = or_l false (subst (λ (y : Edge). covers y f ≡ true) (sym (eq_edge_eq x (weakest 0) h)) (weakest_covers 0 f))
is_blur_covers (x ∷ y ∷ ys) f h = absurd (false≢true h)

pub set_ok_blurred : (s : EdgeSet) → s.blurred ≡ true → set_ok s ≡ is_blur s.edges
unfolding set_ok
set_ok_blurred s b = ap (λ (x : Bool). cond x (is_blur s.edges) (leb (length s.edges) 10 && (all short s.edges && ordered s.edges))) b

has_step : (e x : Edge) (xs : List Edge) → (has e xs ≡ true → covered xs e ≡ true) → (eq_edge e x ≡ true) ⊎ (has e xs ≡ true) → covered (x ∷ xs) e ≡ true
unfolding covers eq_edge
has_step e x xs r (inl p) = or_l (covered xs e) (subst (λ (y : Edge). covers y e ≡ true) (eq_edge_eq e x p) (covers_self e))
has_step e x xs r (inr p) = or_r (covers x e) (r p)

has_covers : (e : Edge) (xs : List Edge) → has e xs ≡ true → covered xs e ≡ true
unfolding has
has_covers e [] h = h
has_covers e (x ∷ xs) h = has_step e x xs (has_covers e xs) (or_cases (eq_edge e x) (has e xs) h)

-- what was put in is covered
pub insert_new : (s : EdgeSet) (e : Edge) (t : EdgeSet) → Inserted s e t → set_ok s ≡ true → covered t.edges e ≡ true
insert_new s e t (before b q) h =
    subst (λ (x : EdgeSet). covered x.edges e ≡ true) q (is_blur_covers s.edges e (sym (set_ok_blurred s b) ∙ h))
insert_new s e t (present b p q) h = subst (λ (x : EdgeSet). covered x.edges e ≡ true) q (has_covers e s.edges p)
insert_new s e t (just_now b l q) h = ap (λ (x : EdgeSet). covered x.edges e) q ∙ blur_covers e.offset e
insert_new s e t (added b l k p q) h =
    ap (λ (x : EdgeSet). covered x.edges e) q ∙ any_put (λ d. covers d e) e s.edges ∙ or_l (covered s.edges e) (covers_self e)
