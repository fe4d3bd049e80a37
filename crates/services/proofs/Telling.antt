-- Who makes the changes that are told holds the new list.
--     service_for-alike      of two names that are one, each has the service of the other
--     taken_out, put_behind, put_in_place      what a change makes of the service of an instance
--     after_going, after_news      what those who went make of it, and then those who came or differ
use Rattle.std.proofs.Common.{◌≡◌, Bool, true, false, true≢false, cond, not, List, [], ◌∷◌, ◌++◌, map, filter, fold, flat_map, find, Option, Some, None, option_to_list, refl, sym, ap, subst, ◌∙◌}
use Rattle.std.specs.List.{AllByRecursion, IsDistinct}
use Rattle.dnsname.specs.Names.{Labels, same_name}
use Rattle.services.specs.declared.service.Service.{Service}
use Rattle.services.specs.declared.service.Change.{Change}
use Rattle.services.specs.declared.service.Change.TheVariants as change
use Rattle.services.specs.Services.{is_for, service_for, same_service, went_from, news_to, gone_from, news_of, changes}
use Rattle.services.specs.Laws.{made, made_all, AreApart, ToldAgain, SameIsSilent}
use Rattle.services.proofs.SameServices.{swapped, joined, itself, turned, alike, parted, service-same, service-self}

-- ---- the service of an instance

abbrev is_other : Option Service → Bool
is_other None = false
is_other (Some s) = true

some_none : (s : Service) → Some s ≡ None → true ≡ false
some_none s e = ap is_other e

abbrev first_is : Service → Option Service → Service
first_is d None = d
first_is d (Some s) = s

some_same : (s t : Service) → Some s ≡ Some t → s ≡ t
some_same s t e = ap (first_is s) e

pub service_for-alike : (a b : Labels) (list : List Service) → same_name a b ≡ true → service_for a list ≡ service_for b list
service_for-alike a b [] e = refl
service_for-alike a b (s ∷ rest) e =
    ap (λ (t : Bool). cond t (Some s) (service_for a rest)) (alike a b s.instance e)
    ∙ ap (λ (o : Option Service). cond (is_for b s) (Some s) o) (service_for-alike a b rest e)

here : (i : Labels) (s : Service) (rest : List Service) → is_for i s ≡ true → service_for i (s ∷ rest) ≡ Some s
here i s rest e = ap (λ (t : Bool). cond t (Some s) (service_for i rest)) e

behind : (i : Labels) (s : Service) (rest : List Service) → is_for i s ≡ false → service_for i (s ∷ rest) ≡ service_for i rest
behind i s rest e = ap (λ (t : Bool). cond t (Some s) (service_for i rest)) e

-- ---- what one change makes of it

-- of a name that is one with the instance's
went_here : (k i : Labels) (list : List Service) → same_name k i ≡ true → service_for i (filter (λ t. not (is_for k t)) list) ≡ None
went_here k i [] e = refl
went_here k i (s ∷ rest) e = by (is_for k s) refl (went_here k i rest e)
  where
    by : (t : Bool) → is_for k s ≡ t → service_for i (filter (λ t. not (is_for k t)) rest) ≡ None → service_for i (cond (not (is_for k s)) (s ∷ filter (λ t. not (is_for k t)) rest) (filter (λ t. not (is_for k t)) rest)) ≡ None
    by true f left = ap (λ (t : Bool). service_for i (cond (not t) (s ∷ filter (λ t. not (is_for k t)) rest) (filter (λ t. not (is_for k t)) rest))) f ∙ left
    by false f left =
        ap (λ (t : Bool). service_for i (cond (not t) (s ∷ filter (λ t. not (is_for k t)) rest) (filter (λ t. not (is_for k t)) rest))) f
        ∙ behind i s (filter (λ t. not (is_for k t)) rest) (sym (alike k i s.instance e) ∙ f)
        ∙ left

went_other : (k i : Labels) (list : List Service) → same_name k i ≡ false → service_for i (filter (λ t. not (is_for k t)) list) ≡ service_for i list
went_other k i [] e = refl
went_other k i (s ∷ rest) e = by (is_for k s) refl (went_other k i rest e)
  where
    apart : is_for k s ≡ true → (t : Bool) → is_for i s ≡ t → t ≡ false
    apart f true g = sym (joined k s.instance i (swapped s.instance k f) g) ∙ e
    apart f false g = refl

    by : (t : Bool) → is_for k s ≡ t → service_for i (filter (λ t. not (is_for k t)) rest) ≡ service_for i rest
        → service_for i (cond (not (is_for k s)) (s ∷ filter (λ t. not (is_for k t)) rest) (filter (λ t. not (is_for k t)) rest)) ≡ service_for i (s ∷ rest)
    by true f left =
        ap (λ (t : Bool). service_for i (cond (not t) (s ∷ filter (λ t. not (is_for k t)) rest) (filter (λ t. not (is_for k t)) rest))) f
        ∙ left
        ∙ sym (behind i s rest (apart f (is_for i s) refl))
    by false f left =
        ap (λ (t : Bool). service_for i (cond (not t) (s ∷ filter (λ t. not (is_for k t)) rest) (filter (λ t. not (is_for k t)) rest))) f
        ∙ ap (λ (o : Option Service). cond (is_for i s) (Some s) o) left

came_here : (i : Labels) (s : Service) (list : List Service) → is_for i s ≡ true → service_for i list ≡ None → service_for i (list ++ s ∷ []) ≡ Some s
came_here i s [] e none = here i s [] e
came_here i s (t ∷ rest) e none = by (is_for i t) refl none (came_here i s rest e)
  where
    by : (b : Bool) → is_for i t ≡ b → service_for i (t ∷ rest) ≡ None → (service_for i rest ≡ None → service_for i (rest ++ s ∷ []) ≡ Some s) → service_for i (t ∷ (rest ++ s ∷ [])) ≡ Some s
    by true f n later = absurd (true≢false (some_none t (sym (here i t rest f) ∙ n)))
    by false f n later = behind i t (rest ++ s ∷ []) f ∙ later (sym (behind i t rest f) ∙ n)

came_other : (i : Labels) (s : Service) (list : List Service) → is_for i s ≡ false → service_for i (list ++ s ∷ []) ≡ service_for i list
came_other i s [] e = behind i s [] e
came_other i s (t ∷ rest) e = ap (λ (o : Option Service). cond (is_for i t) (Some t) o) (came_other i s rest e)

abbrev replaced : Service → Service → Service
replaced s t = cond (is_for s.instance t) s t

differs_other : (i : Labels) (s : Service) (list : List Service) → is_for i s ≡ false → service_for i (map (replaced s) list) ≡ service_for i list
differs_other i s [] e = refl
differs_other i s (t ∷ rest) e = by (is_for s.instance t) refl (differs_other i s rest e)
  where
    apart : is_for s.instance t ≡ true → (b : Bool) → is_for i t ≡ b → b ≡ false
    apart f true g = sym (joined s.instance t.instance i (swapped t.instance s.instance f) g) ∙ e
    apart f false g = refl

    by : (b : Bool) → is_for s.instance t ≡ b → service_for i (map (replaced s) rest) ≡ service_for i rest → service_for i (replaced s t ∷ map (replaced s) rest) ≡ service_for i (t ∷ rest)
    by true f left =
        ap (λ (b : Bool). service_for i (cond b s t ∷ map (replaced s) rest)) f
        ∙ behind i s (map (replaced s) rest) e
        ∙ left
        ∙ sym (behind i t rest (apart f (is_for i t) refl))
    by false f left =
        ap (λ (b : Bool). service_for i (cond b s t ∷ map (replaced s) rest)) f
        ∙ ap (λ (o : Option Service). cond (is_for i t) (Some t) o) left

differs_here : (i : Labels) (s b : Service) (list : List Service) → is_for i s ≡ true → service_for i list ≡ Some b → service_for i (map (replaced s) list) ≡ Some s
differs_here i s b [] e some = absurd (true≢false (some_none b (sym some)))
differs_here i s b (t ∷ rest) e some = by (is_for s.instance t) refl (differs_here i s b rest e)
  where
    apart : is_for s.instance t ≡ false → (c : Bool) → is_for i t ≡ c → c ≡ false
    apart f true g = sym (joined t.instance i s.instance g (swapped s.instance i e)) ∙ f
    apart f false g = refl

    by : (c : Bool) → is_for s.instance t ≡ c → (service_for i rest ≡ Some b → service_for i (map (replaced s) rest) ≡ Some s) → service_for i (replaced s t ∷ map (replaced s) rest) ≡ Some s
    by true f later = ap (λ (c : Bool). service_for i (cond c s t ∷ map (replaced s) rest)) f ∙ here i s (map (replaced s) rest) e
    by false f later =
        let no = apart f (is_for i t) refl in
        ap (λ (c : Bool). service_for i (cond c s t ∷ map (replaced s) rest)) f
        ∙ behind i t (map (replaced s) rest) no
        ∙ later (sym (behind i t rest no) ∙ some)

-- ---- those who went

-- what is told of a service of the old list
abbrev gone_next : List Service → Option Service → Service → List Service → List Service → List Service
gone_next new None x xs list = made_all (made list (change.Went x)) (gone_from new xs)
gone_next new (Some now) x xs list = made_all list (gone_from new xs)

going : (new xs list : List Service) (x : Service) → made_all list (gone_from new (x ∷ xs)) ≡ gone_next new (service_for x.instance new) x xs list
going new xs list x = by (service_for x.instance new) refl
  where
    by : (o : Option Service) → service_for x.instance new ≡ o → made_all list (gone_from new (x ∷ xs)) ≡ gone_next new o x xs list
    by None e = ap (λ (o : Option Service). made_all list (option_to_list (elim o [ None ↦ Some (change.Went x) | Some now ↦ None ]) ++ gone_from new xs)) e
    by (Some now) e = ap (λ (o : Option Service). made_all list (option_to_list (elim o [ None ↦ Some (change.Went x) | Some now ↦ None ]) ++ gone_from new xs)) e

-- who is in the new list stays
stays : (new xs list : List Service) (i : Labels) (y : Service) → service_for i new ≡ Some y → service_for i (made_all list (gone_from new xs)) ≡ service_for i list
stays new [] list i y some = refl
stays new (x ∷ xs) list i y some = ap (service_for i) (going new xs list x) ∙ by (service_for x.instance new) refl (λ list'. stays new xs list' i y some)
  where
    apart : service_for x.instance new ≡ None → (t : Bool) → same_name x.instance i ≡ t → t ≡ false
    apart none true g = absurd (true≢false (some_none y (sym some ∙ sym (service_for-alike x.instance i new g) ∙ none)))
    apart none false g = refl

    by : (o : Option Service) → service_for x.instance new ≡ o → ((list' : List Service) → service_for i (made_all list' (gone_from new xs)) ≡ service_for i list')
        → service_for i (gone_next new (service_for x.instance new) x xs list) ≡ service_for i list
    by None e later =
        ap (λ (o : Option Service). service_for i (gone_next new o x xs list)) e
        ∙ later (made list (change.Went x))
        ∙ went_other x.instance i list (apart e (same_name x.instance i) refl)
    by (Some now) e later = ap (λ (o : Option Service). service_for i (gone_next new o x xs list)) e ∙ later list

-- who isn't there doesn't come by it
stays_out : (new xs list : List Service) (i : Labels) → service_for i list ≡ None → service_for i (made_all list (gone_from new xs)) ≡ None
stays_out new [] list i none = none
stays_out new (x ∷ xs) list i none = ap (service_for i) (going new xs list x) ∙ by (service_for x.instance new) refl (λ list'. stays_out new xs list' i)
  where
    left : (t : Bool) → same_name x.instance i ≡ t → service_for i (made list (change.Went x)) ≡ None
    left true g = went_here x.instance i list g
    left false g = went_other x.instance i list g ∙ none

    by : (o : Option Service) → service_for x.instance new ≡ o → ((list' : List Service) → service_for i list' ≡ None → service_for i (made_all list' (gone_from new xs)) ≡ None)
        → service_for i (gone_next new (service_for x.instance new) x xs list) ≡ None
    by None e later =
        ap (λ (o : Option Service). service_for i (gone_next new o x xs list)) e
        ∙ later (made list (change.Went x)) (left (same_name x.instance i) refl)
    by (Some now) e later = ap (λ (o : Option Service). service_for i (gone_next new o x xs list)) e ∙ later list none

-- who isn't in the new list goes
goes : (new xs list : List Service) (i : Labels) (x' : Service) → service_for i new ≡ None → service_for i xs ≡ Some x' → service_for i (made_all list (gone_from new xs)) ≡ None
goes new [] list i x' none some = absurd (true≢false (some_none x' (sym some)))
goes new (x ∷ xs) list i x' none some = ap (service_for i) (going new xs list x) ∙ by (is_for i x) refl (λ list' f. goes new xs list' i x' none (sym (behind i x xs f) ∙ some))
  where
    next : is_for i x ≡ false → ((list' : List Service) → is_for i x ≡ false → service_for i (made_all list' (gone_from new xs)) ≡ None) → (o : Option Service) → service_for i (gone_next new o x xs list) ≡ None
    next f later None = later (made list (change.Went x)) f
    next f later (Some now) = later list f

    by : (t : Bool) → is_for i x ≡ t → ((list' : List Service) → is_for i x ≡ false → service_for i (made_all list' (gone_from new xs)) ≡ None) → service_for i (gone_next new (service_for x.instance new) x xs list) ≡ None
    by true f later =
        ap (λ (o : Option Service). service_for i (gone_next new o x xs list)) (service_for-alike x.instance i new f ∙ none)
        ∙ stays_out new xs (made list (change.Went x)) i (went_here x.instance i list f)
    by false f later = next f later (service_for x.instance new)

-- behind it those are left that the new list has, as they were
after_going : (old new : List Service) (i : Labels) (y : Service) → service_for i new ≡ Some y → service_for i (made_all old (gone_from new old)) ≡ service_for i old
after_going old new i y some = stays new old old i y some

all_gone : (old new : List Service) (i : Labels) → service_for i new ≡ None → service_for i (made_all old (gone_from new old)) ≡ None
all_gone old new i none = by (service_for i old) refl
  where
    by : (o : Option Service) → service_for i old ≡ o → service_for i (made_all old (gone_from new old)) ≡ None
    by None e = stays_out new old old i e
    by (Some x) e = goes new old old i x none e

-- ---- those who came or differ

-- what is told of a service of the new list
abbrev news_next : List Service → Option Service → Service → List Service → List Service
news_next old None y list = made list (change.Came y)
news_next old (Some before) y list = cond (same_service before y) list (made list (change.Differs before y))

coming : (old ys list : List Service) (y : Service) → made_all list (news_of old (y ∷ ys)) ≡ made_all (news_next old (service_for y.instance old) y list) (news_of old ys)
coming old ys list y = by (service_for y.instance old) refl
  where
    told : Option Service → Option Change
    told o = elim o [ None ↦ Some (change.Came y) | Some before ↦ cond (same_service before y) None (Some (change.Differs before y)) ]

    differing : (before : Service) (t : Bool) → same_service before y ≡ t
        → made_all list (option_to_list (cond (same_service before y) None (Some (change.Differs before y))) ++ news_of old ys) ≡ made_all (cond (same_service before y) list (made list (change.Differs before y))) (news_of old ys)
    differing before true f =
        ap (λ (t : Bool). made_all list (option_to_list (cond t None (Some (change.Differs before y))) ++ news_of old ys)) f
        ∙ sym (ap (λ (t : Bool). made_all (cond t list (made list (change.Differs before y))) (news_of old ys)) f)
    differing before false f =
        ap (λ (t : Bool). made_all list (option_to_list (cond t None (Some (change.Differs before y))) ++ news_of old ys)) f
        ∙ sym (ap (λ (t : Bool). made_all (cond t list (made list (change.Differs before y))) (news_of old ys)) f)

    by : (o : Option Service) → service_for y.instance old ≡ o → made_all list (news_of old (y ∷ ys)) ≡ made_all (news_next old (service_for y.instance old) y list) (news_of old ys)
    by None e =
        ap (λ (o : Option Service). made_all list (option_to_list (told o) ++ news_of old ys)) e
        ∙ sym (ap (λ (o : Option Service). made_all (news_next old o y list) (news_of old ys)) e)
    by (Some before) e =
        ap (λ (o : Option Service). made_all list (option_to_list (told o) ++ news_of old ys)) e
        ∙ differing before (same_service before y) refl
        ∙ sym (ap (λ (o : Option Service). made_all (news_next old o y list) (news_of old ys)) e)

-- it concerns no other instance
next_other : (old list : List Service) (y : Service) (i : Labels) (o : Option Service) → is_for i y ≡ false → service_for i (news_next old o y list) ≡ service_for i list
next_other old list y i None f = came_other i y list f
next_other old list y i (Some before) f = by (same_service before y)
  where
    by : (t : Bool) → service_for i (cond t list (made list (change.Differs before y))) ≡ service_for i list
    by true = refl
    by false = differs_other i y list f

-- of its instance the service is the new one's, where it was the old list's
next_here : (old list : List Service) (y : Service) (i : Labels) (o : Option Service) → is_for i y ≡ true → service_for i list ≡ o → service_for i (news_next old o y list) ≡ Some y
next_here old list y i None f is = came_here i y list f is
next_here old list y i (Some before) f is = by (same_service before y) refl
  where
    by : (t : Bool) → same_service before y ≡ t → service_for i (cond t list (made list (change.Differs before y))) ≡ Some y
    by true g = is ∙ ap Some (service-same before y g)
    by false g = differs_here i y before list f is

others : (old ys list : List Service) (i : Labels) → service_for i ys ≡ None → service_for i (made_all list (news_of old ys)) ≡ service_for i list
others old [] list i none = refl
others old (y ∷ ys) list i none = ap (service_for i) (coming old ys list y) ∙ by (is_for i y) refl (λ list'. others old ys list' i)
  where
    by : (t : Bool) → is_for i y ≡ t → ((list' : List Service) → service_for i ys ≡ None → service_for i (made_all list' (news_of old ys)) ≡ service_for i list')
        → service_for i (made_all (news_next old (service_for y.instance old) y list) (news_of old ys)) ≡ service_for i list
    by true f later = absurd (true≢false (some_none y (sym (here i y ys f) ∙ none)))
    by false f later = later (news_next old (service_for y.instance old) y list) (sym (behind i y ys f) ∙ none) ∙ next_other old list y i (service_for y.instance old) f

-- where none of a list is for an instance, it has no service for a name that is one with that
none_for : (k i : Labels) (ys : List Service) → same_name k i ≡ true → AllByRecursion (λ t. is_for k t ≡ false) ys → service_for i ys ≡ None
none_for k i [] e all = refl
none_for k i (y ∷ ys) e all = behind i y ys (sym (alike k i y.instance e) ∙ all.0) ∙ none_for k i ys e all.1

apart_parts : (y : Service) (ys : List Service) → AreApart (y ∷ ys) → AllByRecursion (λ t. is_for y.instance t ≡ false) ys × AreApart ys
unfolding IsDistinct
apart_parts y ys h = h

after_news : (old ys list : List Service) (i : Labels) (y : Service) → AreApart ys → service_for i ys ≡ Some y → service_for i list ≡ service_for i old → service_for i (made_all list (news_of old ys)) ≡ Some y
after_news old [] list i y apart some is = absurd (true≢false (some_none y (sym some)))
after_news old (x ∷ ys) list i y apart some is = ap (service_for i) (coming old ys list x) ∙ by (apart_parts x ys apart) (is_for i x) refl (λ list' all. after_news old ys list' i y all)
  where
    by : AllByRecursion (λ t. is_for x.instance t ≡ false) ys × AreApart ys → (t : Bool) → is_for i x ≡ t
        → ((list' : List Service) → AreApart ys → service_for i ys ≡ Some y → service_for i list' ≡ service_for i old → service_for i (made_all list' (news_of old ys)) ≡ Some y)
        → service_for i (made_all (news_next old (service_for x.instance old) x list) (news_of old ys)) ≡ Some y
    by parts true f later =
        others old ys (news_next old (service_for x.instance old) x list) i (none_for x.instance i ys f parts.0)
        ∙ next_here old list x i (service_for x.instance old) f (is ∙ sym (service_for-alike x.instance i old f))
        ∙ sym (here i x ys f) ∙ some
    by parts false f later =
        later (news_next old (service_for x.instance old) x list) parts.1 (sym (behind i x ys f) ∙ some)
        (next_other old list x i (service_for x.instance old) f ∙ is)

-- ---- both

one_then : (list : List Service) (first second : List Change) → made_all list (first ++ second) ≡ made_all (made_all list first) second
one_then list [] second = refl
one_then list (c ∷ cs) second = one_then (made list c) cs second

pub told_again : ToldAgain
told_again old new i apart = ap (service_for i) (one_then old (gone_from new old) (news_of old new)) ∙ by (service_for i new) refl
  where
    by : (o : Option Service) → service_for i new ≡ o → service_for i (made_all (made_all old (gone_from new old)) (news_of old new)) ≡ service_for i new
    by None e = others old new (made_all old (gone_from new old)) i e ∙ all_gone old new i e ∙ sym e
    by (Some y) e = after_news old new (made_all old (gone_from new old)) i y apart e (after_going old new i y e) ∙ sym e

-- ---- from a list to itself

-- each of a list is the list's service of its instance
stand : (list : List Service) → AreApart list → AllByRecursion (λ s. service_for s.instance list ≡ Some s) list
stand [] apart = tt
stand (s ∷ rest) apart = (here s.instance s rest (itself s.instance), by rest (apart_parts s rest apart).0 (stand rest (apart_parts s rest apart).1))
  where
    by : (ts : List Service) → AllByRecursion (λ t. is_for s.instance t ≡ false) ts → AllByRecursion (λ t. service_for t.instance rest ≡ Some t) ts → AllByRecursion (λ t. service_for t.instance (s ∷ rest) ≡ Some t) ts
    by [] h g = tt
    by (t ∷ ts) h g = (behind t.instance s rest (turned s.instance t.instance ∙ h.0) ∙ g.0, by ts h.1 g.1)

none_gone : (list xs : List Service) → AllByRecursion (λ s. service_for s.instance list ≡ Some s) xs → gone_from list xs ≡ []
none_gone list [] h = refl
none_gone list (x ∷ xs) h =
    ap (λ (o : Option Service). option_to_list (elim o [ None ↦ Some (change.Went x) | Some now ↦ None ]) ++ gone_from list xs) h.0 ∙ none_gone list xs h.1

no_news : (list xs : List Service) → AllByRecursion (λ s. service_for s.instance list ≡ Some s) xs → news_of list xs ≡ []
no_news list [] h = refl
no_news list (x ∷ xs) h =
    ap (λ (o : Option Service). option_to_list (elim o [ None ↦ Some (change.Came x) | Some before ↦ cond (same_service before x) None (Some (change.Differs before x)) ]) ++ news_of list xs) h.0
    ∙ ap (λ (t : Bool). option_to_list (cond t None (Some (change.Differs x x))) ++ news_of list xs) (service-self x)
    ∙ no_news list xs h.1

pub same_is_silent : SameIsSilent
same_is_silent list apart = let all = stand list apart in (λ i. none_gone list list all i ++ no_news list list all i)
