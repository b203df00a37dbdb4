mod CompareLaws
mod PlaceLaws
