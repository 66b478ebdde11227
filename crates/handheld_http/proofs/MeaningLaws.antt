-- Each request asks for only one thing.
use Rattle.std.proofs.Common.{◌≡◌, ℕ, Bool, true, false, List, take, drop, Option, Some, None, sym, ap, subst, ◌∙◌, refl}
use Rattle.std.specs.Option.{option_and_then}
use Rattle.std.specs.Str.{IsUtf8, is_utf8}
use Rattle.std.proofs.lemmas.Str.{IsUtf8-from_is_utf8, is_utf8-from_IsUtf8}
use Rattle.httparse.specs.Grammar.{RequestHead}
use Rattle.serde_json.specs.Read.{read}
use Rattle.fact_kinds.specs.declared.batch.Batch.{Batch}
use Rattle.handheld_http.specs.BatchJson.{Says, IsBatchText, batch_of}
use Rattle.handheld_http.specs.Heads.{IsHead, is_post}
use Rattle.handheld_http.specs.Items.{IsItem}
use Rattle.handheld_http.specs.Requests as requests
use Rattle.handheld_http.specs.Requests.{Means, RequestAsks, ResourceAsks, SyncAsks, ViewAsks, asked_sync, asked_view, is_get, parts_of, path_of, view_of}
use Rattle.handheld_http.specs.Routes.{resource_of}
use Rattle.handheld_http.specs.declared.answer.Asked.{Asked}
use Rattle.handheld_http.specs.declared.answer.Asked.TheVariants.{Not}
use Rattle.handheld_http.specs.declared.answer.Refusal.TheVariants.{NoPath, NoMethod}
use Rattle.handheld_http.specs.declared.routes.Page.{Page}
use Rattle.handheld_http.specs.declared.routes.Resource.{Resource}
use Rattle.handheld_http.specs.declared.routes.Resource.TheVariants.{Sync, View}
use Rattle.handheld_http.proofs.ItemLaws.{IsHead-unique, Begins-unique}

-- a body is only one batch, or none
one_batch : (body : List ℕ) (batch other : Option Batch) → Says body batch → Says body other → batch ≡ other
one_batch body None None none nor = refl
one_batch body None (Some other) none says = absurd (none other says)
one_batch body (Some batch) None says none = absurd (none batch says)
one_batch body (Some batch) (Some other) says says_too = sym says.says ∙ says_too.says

-- a request to the path for batches asks for only one thing
one_sync : (posted : Bool) (body : List ℕ) (asked other : Asked) → SyncAsks posted body asked → SyncAsks posted body other → asked ≡ other
one_sync false body asked other is is_too = is ∙ sym is_too
one_sync true body asked other (batch, says, is) (same, says_too, is_too) =
    is ∙ ap asked_sync (one_batch body batch same says says_too) ∙ sym is_too

-- a request for a view asks for only one thing
one_view : (got : Bool) (page : Page) (path : List ℕ) (asked other : Asked) → ViewAsks got page path asked → ViewAsks got page path other
    → asked ≡ other
one_view false page path asked other is is_too = is ∙ sym is_too
one_view true page path asked other is is_too = is ∙ sym is_too

-- a request to any path asks for only one thing
one_asked : (resource : Option Resource) (method path body : List ℕ) (asked other : Asked) → ResourceAsks resource method path body asked
    → ResourceAsks resource method path body other → asked ≡ other
one_asked None method path body asked other is is_too = is ∙ sym is_too
one_asked (Some Sync) method path body asked other is is_too = one_sync (is_post method) body asked other is is_too
one_asked (Some (View page)) method path body asked other is is_too = one_view (is_get method) page path asked other is is_too

pub one_meaning_with : requests.OneMeaning
one_meaning_with item asked other is is_too =
    let same = Begins-unique item is.head is.body is.closing is.h is_too.head is_too.body is_too.closing is_too.h is.begins is_too.begins in
    let reads : IsHead (take is.head item) is_too.h = subst (λ (i : ℕ). IsHead (take i item) is_too.h) (sym same.0) is_too.begins.reads in
    let head_is : is_too.h ≡ is.h = IsHead-unique (take is.head item) is_too.h is.h reads is.begins.reads in
    let by_body = subst (λ (i : ℕ). RequestAsks is_too.h.method is_too.h.target (drop i item) other) (sym same.0) is_too.asks in
    let by_head = subst (λ (l : RequestHead). RequestAsks l.method l.target (drop is.head item) other) head_is by_body in
    one_asked (resource_of (path_of is.h.target)) is.h.method (path_of is.h.target) (drop is.head item) asked other is.asks by_head

-- a text is a batch, or none
says_read : (body : List ℕ) (batch : Option Batch) → option_and_then batch_of (read body) ≡ batch → IsUtf8 body
    → (said : Option Batch) × Says body said
says_read body None e text = (None, λ batch is. absurd (none_read batch (sym e ∙ is.says)))
  where
    none_read : (batch : Batch) → None ≡ Some batch → ⊥
    none_read batch e = absurd cc
says_read body (Some batch) e text = (Some batch, record { text = text; says = e })

-- each body is a batch, or none
says_something : (body : List ℕ) (text : Bool) → is_utf8 body ≡ text → (said : Option Batch) × Says body said
says_something body true e = says_read body (option_and_then batch_of (read body)) refl (IsUtf8-from_is_utf8 body e)
says_something body false e = (None, λ batch is. absurd (not_both (sym e ∙ is_utf8-from_IsUtf8 body is.text)))
  where
    not_both : false ≡ true → ⊥
    not_both e = absurd cc

-- a request to the path for batches asks for something
sync_asks : (posted : Bool) (body : List ℕ) → (asked : Asked) × SyncAsks posted body asked
sync_asks false body = (Not (NoMethod true), refl)
sync_asks true body = let said = says_something body (is_utf8 body) refl in (asked_sync said.0, (said.0, said.1, refl))

-- a request for a view asks for something
view_asks : (got : Bool) (page : Page) (path : List ℕ) → (asked : Asked) × ViewAsks got page path asked
view_asks false page path = (Not (NoMethod false), refl)
view_asks true page path = (asked_view (view_of page (parts_of path)), refl)

-- each request asks for something
resource_asks : (resource : Option Resource) (method path body : List ℕ) → (asked : Asked) × ResourceAsks resource method path body asked
resource_asks None method path body = (Not NoPath, refl)
resource_asks (Some Sync) method path body = sync_asks (is_post method) body
resource_asks (Some (View page)) method path body = view_asks (is_get method) page path

pub items_mean_with : requests.ItemsMean
unfolding IsItem
items_mean_with item = (
  λ is.
      let h = is.1.begins.0 in
      let asks = resource_asks (resource_of (path_of h.target)) h.method (path_of h.target) (drop is.1.head item) in (
        asks.0,
        record {
          head = is.1.head;
          body = is.1.body;
          closing = is.0;
          h = h;
          begins = is.1.begins.1;
          whole = is.1.whole;
          asks = asks.1;
        },
      ),
  λ means. (
    means.1.closing,
    record {
      head = means.1.head;
      body = means.1.body;
      begins = (means.1.h, means.1.begins);
      whole = means.1.whole;
    },
  ),
)
