-- The texts of the libraries of applications. Each has the predicates of SWI-Prolog's library(lists) and library(apply), on which the pengines of TPLP 2014 run, `between/3` and `succ/2`.
use Rattle.std.specs.Prelude.{ℕ, List, [], ◌∷◌, ◌++◌, codes}
use Rattle.term_core.specs.declared.app.App.{App}
use Rattle.term_core.specs.declared.app.App.TheVariants.{Sandbox, School, Numbers}

-- each line with its end
abbrev pub ended : List (List ℕ) → List ℕ
ended [] = []
ended (l ∷ ls) = l ++ 10 ∷ ended ls

unfoldable pub library_lines : List (List ℕ)
library_lines =
    codes "append([], L, L)." ∷
    codes "append([X|Xs], L, [X|Ys]) :- append(Xs, L, Ys)." ∷
    codes "member(X, [Y|Ys]) :- '$member'(Ys, X, Y)." ∷
    codes "'$member'(_, X, X)." ∷
    codes "'$member'([Y|Ys], X, _) :- '$member'(Ys, X, Y)." ∷
    codes "memberchk(X, [Y|Ys]) :- '$member'(Ys, X, Y), !." ∷
    codes "select(X, [X|Xs], Xs)." ∷
    codes "select(X, [Y|Ys], [Y|Zs]) :- select(X, Ys, Zs)." ∷
    codes "reverse(L, R) :- '$reverse'(L, [], R)." ∷
    codes "'$reverse'([], R, R)." ∷
    codes "'$reverse'([X|Xs], A, R) :- '$reverse'(Xs, [X|A], R)." ∷
    codes "nth0(I, L, X) :- '$nth'(L, 0, I, X)." ∷
    codes "nth1(I, L, X) :- '$nth'(L, 1, I, X)." ∷
    codes "'$nth'(L, B, I, X) :- integer(I), !, I >= B, K is I - B, '$nth_at'(K, L, X)." ∷
    codes "'$nth'([Y|Ys], B, I, X) :- var(I), '$nth_any'(Ys, Y, B, I, X)." ∷
    codes "'$nth_at'(K, [Y|Ys], X) :- ( K =:= 0 -> X = Y ; J is K - 1, '$nth_at'(J, Ys, X) )." ∷
    codes "'$nth_any'(_, Y, B, B, Y)." ∷
    codes "'$nth_any'([Z|Zs], _, B, I, X) :- C is B + 1, '$nth_any'(Zs, Z, C, I, X)." ∷
    codes "last([X|Xs], Y) :- '$last'(Xs, X, Y)." ∷
    codes "'$last'([], X, X)." ∷
    codes "'$last'([Y|Ys], _, X) :- '$last'(Ys, Y, X)." ∷
    codes "maplist(G, L) :- '$maplist'(L, G)." ∷
    codes "'$maplist'([], _)." ∷
    codes "'$maplist'([X|Xs], G) :- call(G, X), '$maplist'(Xs, G)." ∷
    codes "maplist(G, L, M) :- '$maplist'(L, M, G)." ∷
    codes "'$maplist'([], [], _)." ∷
    codes "'$maplist'([X|Xs], [Y|Ys], G) :- call(G, X, Y), '$maplist'(Xs, Ys, G)." ∷
    codes "maplist(G, L, M, N) :- '$maplist'(L, M, N, G)." ∷
    codes "'$maplist'([], [], [], _)." ∷
    codes "'$maplist'([X|Xs], [Y|Ys], [Z|Zs], G) :- call(G, X, Y, Z), '$maplist'(Xs, Ys, Zs, G)." ∷
    codes "maplist(G, L, M, N, O) :- '$maplist'(L, M, N, O, G)." ∷
    codes "'$maplist'([], [], [], [], _)." ∷
    codes "'$maplist'([X|Xs], [Y|Ys], [Z|Zs], [W|Ws], G) :-" ∷
    codes "    call(G, X, Y, Z, W), '$maplist'(Xs, Ys, Zs, Ws, G)." ∷
    codes "foldl(G, L, A, B) :- '$foldl'(L, G, A, B)." ∷
    codes "'$foldl'([], _, A, A)." ∷
    codes "'$foldl'([X|Xs], G, A, C) :- call(G, X, A, B), '$foldl'(Xs, G, B, C)." ∷
    codes "include(G, L, M) :- '$include'(L, G, M)." ∷
    codes "'$include'([], _, [])." ∷
    codes "'$include'([X|Xs], G, M) :- ( call(G, X) -> M = [X|N] ; M = N ), '$include'(Xs, G, N)." ∷
    codes "exclude(G, L, M) :- '$exclude'(L, G, M)." ∷
    codes "'$exclude'([], _, [])." ∷
    codes "'$exclude'([X|Xs], G, M) :- ( call(G, X) -> M = N ; M = [X|N] ), '$exclude'(Xs, G, N)." ∷
    codes "sum_list(L, S) :- '$sum'(L, 0, S)." ∷
    codes "'$sum'([], S, S)." ∷
    codes "'$sum'([X|Xs], A, S) :- B is A + X, '$sum'(Xs, B, S)." ∷
    codes "numlist(L, H, R) :- '$int'(L), '$int'(H), L =< H, '$numlist'(L, H, R)." ∷
    codes "'$numlist'(L, H, [L|T]) :- ( L =:= H -> T = [] ; M is L + 1, '$numlist'(M, H, T) )." ∷
    codes "succ(X, Y) :- integer(X), !, X >= 0, Y is X + 1." ∷
    codes "succ(X, Y) :- '$int'(Y), Y > 0, X is Y - 1." ∷
    codes "between(L, H, X) :- '$int'(L), ( H == inf -> true ; '$int'(H) ), '$between'(X, L, H)." ∷
    codes "'$between'(X, L, H) :- integer(X), !, X >= L, ( H == inf -> true ; X =< H )." ∷
    codes "'$between'(X, L, H) :- var(X), !, ( H == inf -> '$up'(L, X) ; L =< H, '$upto'(L, H, X) )." ∷
    codes "'$between'(X, _, _) :- '$int'(X)." ∷
    codes "'$up'(L, L)." ∷
    codes "'$up'(L, X) :- M is L + 1, '$up'(M, X)." ∷
    codes "'$upto'(L, H, X) :- L =:= H, !, X = L." ∷
    codes "'$upto'(L, _, L)." ∷
    codes "'$upto'(L, H, X) :- M is L + 1, '$upto'(M, H, X)." ∷
    codes "length(L, N) :- ( var(N) -> true ; '$int'(N) ), '$skip_list'(L, K, T), '$length'(T, K, N)." ∷
    codes "'$length'(T, K, N) :- T == [], !, N = K." ∷
    codes "'$length'(T, K, N) :- var(T), integer(N), !, N >= K, D is N - K, '$fill'(D, T)." ∷
    codes "'$length'(T, K, N) :- var(T), '$grow'(T, K, N)." ∷
    codes "'$fill'(D, T) :- ( D =:= 0 -> T = [] ; T = [_|U], E is D - 1, '$fill'(E, U) )." ∷
    codes "'$grow'([], K, K)." ∷
    codes "'$grow'([_|T], K, N) :- M is K + 1, '$grow'(T, M, N)." ∷
    codes "'$int'(X) :- integer(X), !." ∷
    codes "'$int'(X) :- var(X), !, throw(error(instantiation_error, none))." ∷
    codes "'$int'(X) :- throw(error(type_error(integer, X), none))." ∷
    []

abbrev pub library_text : List ℕ
library_text = ended library_lines

-- ---- what an application has of its own

abbrev pub school_text : List ℕ
school_text =
    ended (codes "add_all(L, S) :- foldl('$add', L, 0, S)." ∷ codes "'$add'(X, A, B) :- B is A + X." ∷ codes "twice(X, Y) :- Y is 2 * X." ∷ [])

-- School alone has a text behind the library's
unfoldable pub text_behind : App → List ℕ
text_behind Sandbox = []
text_behind School = school_text
text_behind Numbers = []

abbrev pub text_of : App → List ℕ
text_of app = library_text ++ text_behind app
