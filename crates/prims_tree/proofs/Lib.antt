pub mod HavePlaces
